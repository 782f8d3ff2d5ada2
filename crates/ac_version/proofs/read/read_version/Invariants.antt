use Rattle.std.proofs.Common.{map, length}
use Rattle.ac_types.specs.ReadTypes.{atom_of}
use Rattle.ac_version.proofs.VersionSteps.{AtomsRead}
use Rattle.ac_version.proofs.read.read_version.Given as goal

abbrev pub invariant-loop-behind : goal.invariant-loop-behind
invariant-loop-behind l = AtomsRead l.tokens (map atom_of l.atoms) l.rest

abbrev pub decreases-loop-behind : goal.decreases-loop-behind
decreases-loop-behind l = length l.rest
