use Rattle.std.proofs.Common.{map, length}
use Rattle.ac_types.specs.ReadTypes.{range_of}
use Rattle.ac_version.proofs.RangeSteps.{RangesRead}
use Rattle.ac_version.proofs.read.read_constraint.Given as goal

abbrev pub invariant-loop-star : goal.invariant-loop-star
invariant-loop-star l = RangesRead l.tokens (map range_of l.atoms) l.rest

abbrev pub decreases-loop-star : goal.decreases-loop-star
decreases-loop-star l = length l.rest
