use Rattle.std.proofs.Common.{◌<◌, map, length}
use Rattle.ac_syntax.specs.Programs.{ParsesFields}
use Rattle.ac_syntax.specs.ReadSigns.{read_signs}
use Rattle.ac_syntax.specs.ReadTrees.{field_tree_of}
use Rattle.ac_parser.proofs.Lists.{StructSoFar}
use Rattle.ac_parser.proofs.modules.fields.Given as goal

abbrev pub invariant-loop-end : goal.invariant-loop-end
invariant-loop-end l = record {
  so_far : StructSoFar ParsesFields (read_signs l.signs) (map field_tree_of l.found) (read_signs l.rest);
  shorter : length l.rest < length l.signs;
}

abbrev pub decreases-loop-end : goal.decreases-loop-end
decreases-loop-end l = length l.rest
