use Rattle.std.specs.Prelude.{◌≡◌, ◌++◌, is_none, nat_le, IsTrue}
use Rattle.std.specs.List.{list_all}
use Rattle.std.proofs.lemmas.Result.{IfOk-weaker}
use Rattle.sha2.specs.Sha256.{sha256}
use Rattle.ac_types.specs.ReadTypes.{typ_of}
use Rattle.ac_terms.specs.Defs.{Environment, Entry}
use Rattle.ac_terms.specs.Nesting.{value_nesting}
use Rattle.ac_terms.specs.Read.{environment_of, packet_of, value_of}
use Rattle.ac_rules.specs.Coherent.{IsCoherent, mark_of}
use Rattle.ac_rules.specs.Links.{has_arrived}
use Rattle.ac_rules.specs.Packets.{Accepts, cause}
use Rattle.ac_rules.specs.RoundTrip.{IsPackable}
use Rattle.ac_rules.specs.Widened.{Widens, IsKept}
use Rattle.ac_admit.specs.declared.admitting.Admitted.{Admitted}
use Rattle.ac_admit.proofs.AcceptLaws.{stays_coherent, only_grows, stays_packable, kept_when_wider}
use Rattle.ac_admit.proofs.admitting.admit.Goals as goal

pub returns-clause-coherent : goal.returns-clause-coherent
returns-clause-coherent c =
    let E = environment_of c.args.env.now in let P = packet_of c.args.p.now in let T = typ_of c.args.expected.now in let F = environment_of c.take_in.new.env in
    IfOk-weaker c.take_in.result (λ (a : Admitted). Accepts E P T F (value_of a.value)) (λ (a : Admitted). IsCoherent F)
    (λ (a : Admitted) (h : Accepts E P T F (value_of a.value)). stays_coherent E P T F (value_of a.value) c.requires.coherent c.requires.packet h) c.take_in.ensures.accepted

pub returns-clause-longer : goal.returns-clause-longer
returns-clause-longer c =
    let E = environment_of c.args.env.now in let P = packet_of c.args.p.now in let T = typ_of c.args.expected.now in let F = environment_of c.take_in.new.env in
    IfOk-weaker c.take_in.result (λ (a : Admitted). Accepts E P T F (value_of a.value))
    (λ (a : Admitted). (more : Environment) × (F ≡ E ++ more) × IsTrue (list_all (λ (e : Entry). has_arrived e.seen) more) × IsTrue (list_all (λ (e : Entry). is_none (mark_of e)) more))
    (λ (a : Admitted) (h : Accepts E P T F (value_of a.value)). only_grows E P T F (value_of a.value) c.requires.coherent c.requires.packet h) c.take_in.ensures.accepted

pub returns-clause-packable : goal.returns-clause-packable
returns-clause-packable c =
    let E = environment_of c.args.env.now in let P = packet_of c.args.p.now in let T = typ_of c.args.expected.now in let F = environment_of c.take_in.new.env in
    IfOk-weaker c.take_in.result (λ (a : Admitted). Accepts E P T F (value_of a.value)) (λ (a : Admitted). IsPackable F T (value_of a.value) × IsTrue (nat_le (value_nesting (value_of a.value)) 500))
    (λ (a : Admitted) (h : Accepts E P T F (value_of a.value)). stays_packable E P T F (value_of a.value) c.requires.coherent c.requires.packet h) c.take_in.ensures.accepted

pub returns-clause-widened : goal.returns-clause-widened
returns-clause-widened c =
    let E = environment_of c.args.env.now in let P = packet_of c.args.p.now in let T = typ_of c.args.expected.now in let F = environment_of c.take_in.new.env in
    IfOk-weaker c.take_in.result (λ (a : Admitted). Accepts E P T F (value_of a.value)) (λ (a : Admitted). (G : Environment) → Widens E G → IsCoherent G → IsKept (cause sha256 G P T))
    (λ (a : Admitted) (h : Accepts E P T F (value_of a.value)). kept_when_wider E P T F (value_of a.value) c.requires.coherent c.requires.packet h) c.take_in.ensures.accepted
