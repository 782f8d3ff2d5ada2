use Rattle.std.proofs.Common.{◌≡◌, drop}
use Rattle.std.specs.List.{list_all}
use Rattle.acute_answers.specs.Auditing.{takes_frame}
use Rattle.acute_answers.proofs.auditing.are_taken.Given as goal

abbrev pub invariant-loop-i : goal.invariant-loop-i
invariant-loop-i l = list_all takes_frame (drop l.i l.verdicts) ≡ list_all takes_frame l.verdicts
