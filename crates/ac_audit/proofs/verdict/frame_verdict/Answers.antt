use Rattle.std.proofs.Common.{◌≡◌, sym, subst}
use Rattle.std.proofs.lemmas.Result.{IfOk-weaker}
use Rattle.ac_types.specs.ReadTypes.{typ_of}
use Rattle.ac_terms.specs.Bounds.{Spells}
use Rattle.ac_terms.specs.Defs.{Packet}
use Rattle.ac_terms.specs.Read.{environment_of, packet_of}
use Rattle.ac_audit.specs.FrameVerdicts.{packet_verdict, HasVerdict, no_packet, of_packet}
use Rattle.ac_audit.specs.declared.verdict.AuditVerdict.{AuditVerdict}
use Rattle.ac_audit.proofs.PieceLaws.{of_format}
use Rattle.ac_audit.proofs.verdict.frame_verdict.Goals as goal

pub returns-in-Ok-clause-verdict : goal.returns-in-Ok-clause-verdict
returns-in-Ok-clause-verdict c =
    let E = environment_of c.args.env.now in let T = typ_of c.args.expected.now in let P = packet_of c.in-Ok.packet in
    IfOk-weaker c.packet_verdict.result (λ (v : AuditVerdict). v ≡ packet_verdict E P T) (λ (v : AuditVerdict). HasVerdict E T c.args.frame.now v)
    (λ (v : AuditVerdict) (h : v ≡ packet_verdict E P T). subst (HasVerdict E T c.args.frame.now) (sym h) (of_packet P c.in-Ok.ensures.packet)) c.packet_verdict.ensures.verdict

pub returns-in-Err-Format-clause-verdict : goal.returns-in-Err-Format-clause-verdict
returns-in-Err-Format-clause-verdict c =
    no_packet (of_format c.in-Err-Format.field-0 c.in-Err-Format.field-0-0 ((p : Packet) → Spells c.args.frame.now p → ⊥) c.in-Err-Format.field-0-is c.in-Err-Format.ensures.format)
