use Rattle.std.proofs.Common.{◌≡◌, ◌<◌, ◌≤◌, ◌+◌, ◌*◌, ◌-◌, map, length}
use Rattle.ac_syntax.specs.Trees.{type_trees, type_height, highest_type_tree}
use Rattle.ac_syntax.specs.ReadSigns.{read_signs}
use Rattle.ac_syntax.specs.ReadTrees.{type_tree_of}
use Rattle.ac_syntax.proofs.TypeSteps.{SuffixesSoFar, FactorsRead}
use Rattle.ac_syntax.proofs.types.+types.Given as goal

-- five for each sign, and one for each level
abbrev pub decreases-single : goal.decreases-single
decreases-single l = 5 * length l.signs.now

abbrev pub decreases-suffixed : goal.decreases-suffixed
decreases-suffixed l = 5 * length l.signs.now + 1

abbrev pub decreases-tuple : goal.decreases-tuple
decreases-tuple l = 5 * length l.signs.now + 2

abbrev pub decreases-product : goal.decreases-product
decreases-product l = 5 * length l.signs.now + 3

abbrev pub decreases-whole_type : goal.decreases-whole_type
decreases-whole_type l = 5 * length l.signs.now + 4

abbrev pub invariant-suffixed-loop-suffix : goal.invariant-suffixed-loop-suffix
invariant-suffixed-loop-suffix l = record {
  so_far : SuffixesSoFar l.depth (read_signs l.signs) (type_tree_of l.item.tree) (read_signs l.rest);
  height : l.item.height ≡ type_height (type_tree_of l.item.tree);
  low : l.item.height ≤ l.depth;
  shorter : length l.rest < length l.signs;
}

abbrev pub decreases-suffixed-loop-suffix : goal.decreases-suffixed-loop-suffix
decreases-suffixed-loop-suffix l = length l.rest

abbrev pub invariant-tuple-loop-behind : goal.invariant-tuple-loop-behind
invariant-tuple-loop-behind l = record {
  read : FactorsRead (l.depth - 1) (type_tree_of l.fn.first.tree) (read_signs l.signs) (map type_tree_of l.parts) (read_signs l.rest);
  height : l.height ≡ highest_type_tree (type_trees (map type_tree_of l.parts));
  low : l.height < l.depth;
  shorter : length l.rest < length l.signs;
}

abbrev pub decreases-tuple-loop-behind : goal.decreases-tuple-loop-behind
decreases-tuple-loop-behind l = length l.rest
