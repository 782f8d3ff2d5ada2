use Rattle.std.proofs.Common.{◌≡◌, ◌∙◌, sym, ap, subst}
use Rattle.ac_types.specs.ReadTypes.{typ_of}
use Rattle.ac_terms.specs.Read.{environment_of, expr_of}
use Rattle.ac_load.specs.Loading.{Rejects, shelf_of}
use Rattle.ac_batch.proofs.Saying.{said}
use Rattle.acute_answers.specs.declared.auditing.Auditor.{Auditor}
use Rattle.acute_answers.specs.Answers.{answer_of}
use Rattle.acute_answers.specs.Auditing.{RefusesAudit, refused_program, refused_type}
use Rattle.acute_answers.proofs.RefusalLaws.{one_refusal}
use Rattle.acute_answers.proofs.auditing.load_auditor.Goals as goal

pub returns-in-Ok-clause-refused : goal.returns-in-Ok-clause-refused
returns-in-Ok-clause-refused c = λ a is.
    let l = c.in-Ok.program in
    let x = c.auditor_of.ensures.refused a is in
    subst (RefusesAudit c.args.text.now (shelf_of c.args.shelf.now) c.args.ty.now) (sym x.2)
    (refused_type (environment_of l.env) (expr_of l.main) (typ_of l.ty) x.0 c.in-Ok.ensures.accepted x.1)

pub returns-in_ok-refused-in-Err-clause-refused : goal.returns-in_ok-refused-in-Err-clause-refused
returns-in_ok-refused-in-Err-clause-refused c = λ a is.
    let r = c.in-Err.refusal in
    let shelf = shelf_of c.args.shelf.now in
    let found = c.in_ok-refused-in-Err in
    let same : a ≡ found.field-0 = one_refusal {A = Auditor} a found.field-0 is in
    subst (RefusesAudit c.args.text.now shelf c.args.ty.now) (sym (ap answer_of same ∙ found.ensures.answer))
    (refused_program r.part r.kind (said r.kind (Rejects c.args.text.now shelf r.part r.kind) found.ensures.cause c.in-Err.ensures.refused))
