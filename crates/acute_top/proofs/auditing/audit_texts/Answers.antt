use Rattle.std.proofs.Common.{Err, ap, refl, subst}
use Rattle.ac_types.specs.Types.{Bytes, Typ}
use Rattle.ac_types.specs.ReadTypes.{typ_of}
use Rattle.ac_terms.specs.Terms.{Expr}
use Rattle.ac_terms.specs.Defs.{Environment}
use Rattle.ac_terms.specs.Read.{environment_of, expr_of}
use Rattle.ac_load.specs.Loading.{Loads, shelf_of}
use Rattle.ac_audit.specs.TypeTexts.{IsTypeText}
use Rattle.acute_answers.specs.declared.auditing.Unaudited.{Unaudited}
use Rattle.acute_answers.specs.Answers.{answer_of}
use Rattle.acute_answers.specs.Auditing.{RefusesAudit, not_audited}
use Rattle.acute_top.specs.Streams.{writing}
use Rattle.acute_top.specs.inner.Audited.{said_of_channel, no_memory_to_audit}
use Rattle.acute_top.proofs.AuditLaws.{by_program}
use Rattle.acute_top.proofs.EndingLaws.{still_whole}
use Rattle.acute_top.proofs.auditing.audit_texts.Goals as goal

pub returns-in-Ok-clause-ends : goal.returns-in-Ok-clause-ends
returns-in-Ok-clause-ends g c =
    let auditor = c.in-Ok.auditor in
    let shelf = shelf_of c.args.texts.now.shelf in
    let E : Environment = environment_of auditor.program.env in
    let e : Expr = expr_of auditor.program.main in
    let T : Typ = typ_of auditor.program.ty in
    let U : Typ = typ_of auditor.ty in
    by_program c.args.texts.now.program.0 shelf c.args.asked.ty.now _ _ _ _ E e T U
    (subst (λ (text : Bytes). Loads text shelf E e T) c.as_slice-text.ensures c.in-Ok.ensures.loads)
    (subst (λ (text : Bytes). IsTypeText E text U) c.as_bytes.ensures.value c.in-Ok.ensures.ty) c.audit_channel.ensures.ends

pub returns-in-Err-Refused-clause-ends : goal.returns-in-Err-Refused-clause-ends
returns-in-Err-Refused-clause-ends g c =
    let shelf = shelf_of c.args.texts.now.shelf in
    let arm = c.in-Err-Refused in
    let a = answer_of arm.answer in
    let refused = arm.ensures.refused arm.answer (ap (λ (x : Unaudited). Err x) arm.field-0-is) in
    said_of_channel arm.answer
    (not_audited (subst (λ (text : Bytes). RefusesAudit text shelf c.args.asked.ty.now a) c.as_slice-text.ensures (subst (λ (type : Bytes). RefusesAudit c.as_slice-text.result.now shelf type a) c.as_bytes.ensures.value refused)))
    (rw arm.field-0-is at c.deliver_answer.ensures)

pub returns-in-Err-Memory-clause-ends : goal.returns-in-Err-Memory-clause-ends
returns-in-Err-Memory-clause-ends g c = no_memory_to_audit (still_whole (writing g.O.Sink c.args.output.now c.args.output.now) (record { same = refl })) c.no_memory.ensures
