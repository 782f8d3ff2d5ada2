use Rattle.std.proofs.Common.{◌∙◌, sym, ap, length}
use Rattle.acute_answers.specs.Checking.{verdicts_status, verdict_lines}
use Rattle.acute_answers.proofs.VerdictLines.{named, verdict_count, checks_so}
use Rattle.acute_answers.proofs.checking.check.Goals as goal

pub lines_of-requires : goal.lines_of-requires
lines_of-requires g c = c.requires.each ∙ verdict_count _ _ _ c.in_ok-verdicts.ensures ∙ ap length (sym c.as_slice.ensures)

pub returns : goal.returns
returns g c =
    checks_so _ _ _ c.in_ok-verdicts.verdicts c.in_ok-verdicts.ensures _ _ _ c.printing.ensures (c.status_of-status.ensures ∙ ap verdicts_status c.as_slice-2.ensures) (c.in_ok-lines.ensures ∙ ap (verdict_lines (named c.args.names.now)) c.as_slice.ensures)
