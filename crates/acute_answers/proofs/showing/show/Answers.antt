use Rattle.std.proofs.Common.{◌∙◌, arith, ap, sym, subst}
use Rattle.ac_generate.proofs.EntrySteps.{entries_length}
use Rattle.ac_types.specs.ReadTypes.{typ_of}
use Rattle.ac_terms.specs.Read.{environment_of, expr_of}
use Rattle.ac_load.specs.Loading.{Rejects, shelf_of}
use Rattle.acute_answers.specs.declared.status.TheConstants.Status.{FINISHED}
use Rattle.acute_answers.specs.Answers.{printing}
use Rattle.acute_answers.specs.Showing.{Shows, not_shown, is_shown}
use Rattle.acute_answers.proofs.RefusalLaws.{refused_so}
use Rattle.acute_answers.proofs.showing.show.Goals as goal

pub shown_text-shown-requires : goal.shown_text-shown-requires
shown_text-shown-requires c =
    let l = c.in-Ok.loaded in
    omega (arith, entries_length l.env.entries, c.in-Ok.ensures.loaded.program.coherent.few)

pub returns-in_ok-shown-in-Ok : goal.returns-in_ok-shown-in-Ok
returns-in_ok-shown-in-Ok c =
    let l = c.in-Ok.loaded in
    subst (Shows c.args.what c.args.text.now (shelf_of c.args.shelf.now)) (sym (c.printing.ensures ∙ ap (printing FINISHED) c.in_ok-shown-in-Ok.ensures))
    (is_shown (environment_of l.env) (expr_of l.main) (typ_of l.ty) c.in-Ok.ensures.accepted)

pub returns-in-Err : goal.returns-in-Err
returns-in-Err c =
    let r = c.in-Err.refusal in
    let shelf = shelf_of c.args.shelf.now in
    refused_so c.refused.result r.part r.kind (Rejects c.args.text.now shelf r.part r.kind) (Shows c.args.what c.args.text.now shelf) c.refused.ensures.answer c.refused.ensures.cause c.in-Err.ensures.refused (λ x. not_shown r.part r.kind x)
