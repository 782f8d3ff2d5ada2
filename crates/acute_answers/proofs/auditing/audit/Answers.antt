use Rattle.std.proofs.Common.{◌≡◌, ◌∙◌, sym, ap, ap₂, subst, map, List}
use Rattle.ac_types.specs.Types.{Bytes, Typ}
use Rattle.ac_types.specs.ReadTypes.{typ_of}
use Rattle.ac_terms.specs.Defs.{Environment}
use Rattle.ac_terms.specs.Read.{bytes_of, environment_of}
use Rattle.ac_channels.specs.ChannelFrames.{AllFrames}
use Rattle.ac_audit.specs.declared.verdict.AuditVerdict.{AuditVerdict}
use Rattle.acute_answers.specs.declared.status.Status.{Status}
use Rattle.acute_answers.specs.Answers.{answer_of, printing}
use Rattle.acute_answers.specs.Auditing.{AuditsFrames, audited, frame_lines, frames_status}
use Rattle.acute_answers.proofs.auditing.audit.Goals as goal

pub returns : goal.returns
returns g c =
    let E : Environment = environment_of c.args.auditor.now.program.env in
    let T : Typ = typ_of c.args.auditor.now.ty in
    let vs : List AuditVerdict = c.in_ok-verdicts.verdicts in
    let status : c.status_of-status.result ≡ frames_status vs = c.status_of-status.ensures ∙ ap frames_status c.as_slice-2.ensures in
    let lines : c.in_ok-lines.lines.0 ≡ frame_lines vs = c.in_ok-lines.ensures ∙ ap frame_lines c.as_slice.ensures in
    let is : answer_of c.printing.result ≡ printing (frames_status vs) (frame_lines vs) =
    c.printing.ensures ∙ ap₂ (λ (s : Status) (l : Bytes). printing s l) status lines in
    subst (AuditsFrames E T (AllFrames (map bytes_of c.args.frames.now))) (sym is) (audited (map bytes_of c.args.frames.now) vs c.in_ok-verdicts.ensures)
