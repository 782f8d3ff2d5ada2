use Rattle.std.proofs.Common.{◌≤◌, length}
use Rattle.ac_resolve_names.proofs.Scoping.{Behind}
use Rattle.ac_resolve_names.proofs.variables.behind.Given as goal

abbrev pub invariant-loop-left : goal.invariant-loop-left
invariant-loop-left l = (l.left ≤ length l.names) × Behind l.word l.names l.left

abbrev pub decreases-loop-left : goal.decreases-loop-left
decreases-loop-left l = l.left
