use Rattle.std.proofs.Common.{ap, ◌∙◌, subst, ℕ, false, List, ◌++◌, map}
use Rattle.ac_types.specs.ReadTypes.{typ_of}
use Rattle.ac_terms.specs.declared.def.Entry as code_entry
use Rattle.ac_terms.specs.Read.{environment_of, entry_of, packet_of, value_of}
use Rattle.ac_terms.specs.Renumbered.{value_renumbered}
use Rattle.ac_rules.specs.Views.{Coloured}
use Rattle.ac_rules.specs.Typing.{holds}
use Rattle.ac_rules.specs.Packets.{Placed}
use Rattle.ac_check.specs.declared.fault.CheckFault.{CheckFault}
use Rattle.ac_check.specs.Checking.{RefusesWhere}
use Rattle.ac_terms_renumber.specs.Numbers.{number_for}
use Rattle.ac_admit.proofs.AcceptLaws.{accepts, refuses}
use Rattle.ac_admit.proofs.admitting.take_in.Goals as goal

pub returns-in-Ok-clause-accepted : goal.returns-in-Ok-clause-accepted
returns-in-Ok-clause-accepted c =
    let old = c.args.env.now in
    let P = packet_of c.args.p.now in
    let parts = c.into_parts-entries.ensures in
    let q = c.in_ok-placing.ensures in
    accepts old P (typ_of c.args.expected.now) c.into_parts-entries.result.0 c.into_parts-entries.result.1 c.in_ok-value.value
    (ap (λ (xs : List code_entry.Entry). environment_of old ++ map entry_of xs) parts.1 ∙ ap (λ (s : Placed). s.0) q.placed)
    (parts.0 ∙ q.numbers)
    (c.in_ok-value.ensures ∙ ap (λ (xs : List ℕ). value_renumbered (number_for xs) P.value) c.as_slice.ensures)
    q.front q.of_type q.spoken c.commit.new.env c.in-Ok.ensures.grown c.in-Ok.ensures.held

pub returns-in-Err-IllTyped-clause-refused : goal.returns-in-Err-IllTyped-clause-refused
returns-in-Err-IllTyped-clause-refused c =
    let old = c.args.env.now in
    let P = packet_of c.args.p.now in
    let T = typ_of c.args.expected.now in
    let parts = c.into_parts-entries.ensures in
    let q = c.in_ok-placing.ensures in
    let v = c.in_ok-value.value in
    let more = c.into_parts-entries.result.1 in
    refuses old P T c.into_parts-entries.result.0 more v
    (ap (λ (xs : List code_entry.Entry). environment_of old ++ map entry_of xs) parts.1 ∙ ap (λ (s : Placed). s.0) q.placed)
    (parts.0 ∙ q.numbers)
    (c.in_ok-value.ensures ∙ ap (λ (xs : List ℕ). value_renumbered (number_for xs) P.value) c.as_slice.ensures)
    q.front q.of_type q.spoken
    (subst (λ (f : CheckFault). RefusesWhere f (holds Coloured false (map entry_of (old.entries ++ more)) (value_of v) T)) c.in-Err-IllTyped.field-0-is c.in-Err-IllTyped.ensures.refused)
