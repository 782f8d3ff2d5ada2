use Rattle.std.proofs.Common.{◌≡◌, ◌∙◌, ap, sym, refl, arith, ℕ, ◌<◌, length, ◌+◌, Option, Some}
use Rattle.std.specs.Prelude.{if◌then◌else◌}
use Rattle.ac_types.specs.Types.{same_bytes}
use Rattle.std.proofs.lemmas.List.{length-map}
use Rattle.ac_terms.specs.Read.{environment_of, entry_of}
use Rattle.ac_load_causes.specs.inner.Named.{number_under, put_number}
use Rattle.ac_load_causes.proofs.ClashLaws.{told_text, first_is, clash_untold, clash_new, clash_same, clash_found, clash_nowhere, apart_next, told_skipped, told_kept, told_put}
use Rattle.ac_load_causes.proofs.clashes.first_entry_clash.Goals as goal
use Rattle.ac_load_causes.proofs.clashes.first_entry_clash.Goals.{in-Some+in-None+in_ok-set_number-in-None, in-Some+in-Some-number_under+in_ok-differ-in-Some-number_under+else-branch, in_default}

pub differ-requires-clause-first : goal.differ-requires-clause-first
differ-requires-clause-first c =
    let E = environment_of c.args.env.now in
    let n = c.in-Some.name.now.0 in
    let f = c.in-Some-number_under.first in
    let first = sym (c.in-Some-number_under.ensures ∙ c.loop-second.invariant.firsts n) in
    told_text E f n (first_is E c.loop-second.second f n first).told

pub returns-then-branch : goal.returns-then-branch
returns-then-branch c =
    let E = environment_of c.args.env.now in
    let i = c.loop-second.second in
    let n = c.in-Some.name.now.0 in
    let f = c.in-Some-number_under.first in
    let first = sym (c.in-Some-number_under.ensures ∙ c.loop-second.invariant.firsts n) in
    let long = length-map c.args.env.now.entries entry_of in
    let within : i < length E = omega (arith, long) in
    sym (clash_found E i f n within (sym c.in-Some.ensures) first (sym c.in_ok-differ-in-Some-number_under.ensures ∙ c.if-branch.true) c.loop-second.invariant.apart)

pub loop-second-preserved : goal.loop-second-preserved
loop-second-preserved c =
    let E = environment_of c.args.env.now in
    let i = c.loop-second.second in
    let before = c.loop-second.invariant in
    elim c.match-told_name.branch [
      | in-Some+in-None+in_ok-set_number-in-None w ↦
          let n = w.in-Some.name.now.0 in
          let none = sym (w.in-None.ensures ∙ before.firsts n) in
          record {
            apart = apart_next E i (i + 1) refl before.apart (clash_new E i n (sym w.in-Some.ensures) none);
            firsts =
                λ m. ap (λ x. number_under x m) w.firsts-is ∙ ap (λ g. g m) w.in_ok-set_number-in-None.ensures
                ∙ ap (λ (o : Option ℕ). if same_bytes n m then Some i else o) (before.firsts m) ∙ sym (told_put E i (i + 1) n m refl (sym w.in-Some.ensures) none);
          }
      | in-Some+in-Some-number_under+in_ok-differ-in-Some-number_under+else-branch w ↦
          let n = w.in-Some.name.now.0 in
          let f = w.in-Some-number_under.first in
          let first = sym (w.in-Some-number_under.ensures ∙ before.firsts n) in
          record {
            apart = apart_next E i (i + 1) refl before.apart (clash_same E i f n (sym w.in-Some.ensures) first (sym w.in_ok-differ-in-Some-number_under.ensures ∙ w.if-branch.false) before.apart);
            firsts = λ m. ap (λ x. number_under x m) w.firsts-is ∙ before.firsts m ∙ sym (told_kept E i (i + 1) f n m refl (sym w.in-Some.ensures) first);
          }
      | in_default w ↦ record {
        apart = apart_next E i (i + 1) refl before.apart (clash_untold E i (sym w.in_default.ensures));
        firsts = λ m. ap (λ x. number_under x m) w.firsts-is ∙ before.firsts m ∙ sym (told_skipped E i (i + 1) m refl (sym w.in_default.ensures));
      }
    ]

pub returns : goal.returns
returns c =
    let E = environment_of c.args.env.now in
    let long = length-map c.args.env.now.entries entry_of in
    let e : c.loop-second.second ≡ length E = omega (arith, long) in
    sym (clash_nowhere E c.loop-second.second e c.loop-second.invariant.apart)
