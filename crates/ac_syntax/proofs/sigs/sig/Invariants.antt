use Rattle.std.proofs.Common.{◌<◌, map, length}
use Rattle.ac_syntax.specs.ReadSigns.{read_signs}
use Rattle.ac_syntax.specs.ReadTrees.{spec_of}
use Rattle.ac_syntax.proofs.SigSteps.{SigSoFar}
use Rattle.ac_syntax.proofs.sigs.sig.Given as goal

abbrev pub invariant-loop-end : goal.invariant-loop-end
invariant-loop-end l = record {
  so_far : SigSoFar (read_signs l.signs) (map spec_of l.specs) (read_signs l.rest);
  shorter : length l.rest < length l.signs;
}

abbrev pub decreases-loop-end : goal.decreases-loop-end
decreases-loop-end l = length l.rest
