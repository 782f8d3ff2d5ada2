use Rattle.std.proofs.Common.{◌≡◌, drop}
use Rattle.std.specs.List.{list_all}
use Rattle.acute_answers.specs.Checking.{is_accepted}
use Rattle.acute_answers.proofs.checking.are_accepted.Given as goal

abbrev pub invariant-loop-i : goal.invariant-loop-i
invariant-loop-i l = list_all is_accepted (drop l.i l.verdicts) ≡ list_all is_accepted l.verdicts
