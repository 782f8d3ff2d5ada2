use Rattle.std.proofs.Common.{◌<◌, map, length}
use Rattle.ac_syntax.specs.Programs.{ParsesAbbrevs}
use Rattle.ac_syntax.specs.ReadSigns.{read_signs}
use Rattle.ac_syntax.specs.ReadTrees.{abbrev_of}
use Rattle.ac_parser.proofs.Lists.{StructSoFar}
use Rattle.ac_parser.proofs.modules.abbreviations.Given as goal

abbrev pub invariant-loop-end : goal.invariant-loop-end
invariant-loop-end l = record {
  so_far : StructSoFar ParsesAbbrevs (read_signs l.signs) (map abbrev_of l.found) (read_signs l.rest);
  shorter : length l.rest < length l.signs;
}

abbrev pub decreases-loop-end : goal.decreases-loop-end
decreases-loop-end l = length l.rest
