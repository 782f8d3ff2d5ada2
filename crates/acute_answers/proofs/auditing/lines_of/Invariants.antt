use Rattle.std.proofs.Common.{◌≡◌, ◌+◌, ◌++◌, drop}
use Rattle.ac_text.specs.NumberedLines.{lines_from}
use Rattle.acute_answers.specs.Auditing.{frame_line, frame_lines}
use Rattle.acute_answers.proofs.auditing.lines_of.Given as goal

abbrev pub invariant-loop-i : goal.invariant-loop-i
invariant-loop-i l = frame_lines l.verdicts ≡ l.lines.0 ++ lines_from frame_line (l.i + 1) (drop l.i l.verdicts)
