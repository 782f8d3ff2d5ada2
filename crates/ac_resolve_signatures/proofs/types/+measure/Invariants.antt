use Rattle.std.proofs.Common.{◌≡◌, map, drop}
use Rattle.ac_syntax.specs.Trees.{type_trees}
use Rattle.ac_syntax.specs.ReadTrees.{type_tree_of}
use Rattle.ac_resolve_signatures.specs.TypeFlaws.{no_type, measured_all}
use Rattle.ac_resolve_signatures.specs.Reads.{known_in}
use Rattle.ac_resolve_signatures.proofs.types.+measure.Given as goal

abbrev pub invariant-all-loop-tree : goal.invariant-all-loop-tree
invariant-all-loop-tree l =
    measured_all (known_in l.scan) l.found (type_trees (map type_tree_of (drop l.tree-index l.trees))) ≡ measured_all (known_in l.scan) no_type (type_trees (map type_tree_of l.trees))
