use Rattle.std.proofs.Common.{◌≡◌, ◌++◌, drop}
use Rattle.acute_answers.specs.Checking.{verdict_lines}
use Rattle.acute_answers.proofs.VerdictLines.{named}
use Rattle.acute_answers.proofs.checking.lines_of.Given as goal

abbrev pub invariant-loop-i : goal.invariant-loop-i
invariant-loop-i l = l.lines.0 ++ verdict_lines (named (drop l.i l.names)) (drop l.i l.verdicts) ≡ verdict_lines (named l.names) l.verdicts
