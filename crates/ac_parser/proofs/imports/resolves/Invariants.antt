use Rattle.std.proofs.Common.{◌<◌, map, length}
use Rattle.ac_types.specs.ReadTypes.{resolve_of}
use Rattle.ac_syntax.specs.ReadSigns.{read_signs}
use Rattle.ac_parser.proofs.ImportSteps.{PlacesSoFar}
use Rattle.ac_parser.proofs.imports.resolves.Given as goal

abbrev pub invariant-loop-behind : goal.invariant-loop-behind
invariant-loop-behind l = record {
  so_far : PlacesSoFar (read_signs l.signs) (map resolve_of l.found) (read_signs l.rest);
  shorter : length l.rest < length l.signs;
}

abbrev pub decreases-loop-behind : goal.decreases-loop-behind
decreases-loop-behind l = length l.rest
