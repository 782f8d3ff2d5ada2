use Rattle.std.proofs.Common.{List, [], ap, map, length, subst, arith}
use Rattle.ac_types.specs.ReadTypes.{typ_of}
use Rattle.ac_terms.specs.Read.{environment_of, expr_of}
use Rattle.ac_load_rules.specs.Accepting.{Shelved}
use Rattle.std.proofs.lemmas.Result.{IfOk-weaker}
use Rattle.ac_load.specs.Loading.{Loads, Rejects, shelved}
use Rattle.ac_load.specs.Kinds.{Says}
use Rattle.acute_answers.specs.Answers.{answer_of}
use Rattle.acute_answers.specs.Making.{RunsInEach}
use Rattle.acute_answers.proofs.RefusalLaws.{refused_so}
use Rattle.acute_answers.proofs.MadeLaws.{runs_in_each, refused_in_each}
use Rattle.acute_answers.proofs.making.run_made.Goals as goal

pub load-requires-clause-few : goal.load-requires-clause-few
load-requires-clause-few c = omega (arith, ap length c.empty-shelf.ensures.none)

pub returns-in-Ok : goal.returns-in-Ok
returns-in-Ok c =
    let l = c.in-Ok.loaded in
    let text = c.args.text.now in
    let loads = subst (λ (s : List Shelved). Loads text s (environment_of l.env) (expr_of l.main) (typ_of l.ty)) (ap (map shelved) c.empty-shelf.ensures.none) c.in-Ok.ensures.accepted in
    IfOk-weaker c.run_loaded.result _ _ (λ a gives. runs_in_each c.args.steps c.args.modules text (environment_of l.env) (expr_of l.main) (typ_of l.ty) loads (answer_of a) c.in-Ok.ensures.loaded.program gives) c.run_loaded.ensures

pub returns : goal.returns
returns c =
    let r = c.in-Err.refusal in
    let text = c.args.text.now in
    let says = subst (λ (s : List Shelved). Says r.kind (Rejects text s r.part r.kind)) (ap (map shelved) c.empty-shelf.ensures.none) c.in-Err.ensures.refused in
    refused_so c.refused.result r.part r.kind (Rejects text [] r.part r.kind) (RunsInEach c.args.steps c.args.modules text) c.refused.ensures.answer c.refused.ensures.cause says (λ x. refused_in_each c.args.steps c.args.modules text r.part r.kind x)
