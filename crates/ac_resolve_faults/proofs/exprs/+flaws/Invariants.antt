use Rattle.std.proofs.Common.{◌≡◌, map, drop}
use Rattle.ac_syntax.specs.Trees.{trees, arm_trees}
use Rattle.ac_syntax.specs.ReadTrees.{tree_of, arm_tree_of}
use Rattle.ac_resolve_signatures.specs.Joined.{flaws_joined}
use Rattle.ac_resolve_faults.specs.inner.ExprFlaws.{flaws_of_all, flaws_of_arms}
use Rattle.ac_resolve_signatures.specs.Reads.{known_in}
use Rattle.ac_resolve_faults.specs.inner.Variables.{variables_in}
use Rattle.ac_resolve_faults.proofs.exprs.+flaws.Given as goal

abbrev pub invariant-all-loop-tree : goal.invariant-all-loop-tree
invariant-all-loop-tree l =
    flaws_of_all (known_in l.scan) (variables_in l.scope) (trees (map tree_of l.parts)) ≡ flaws_joined l.found (flaws_of_all (known_in l.scan) (variables_in l.scope) (trees (map tree_of (drop l.tree-index l.parts))))

abbrev pub invariant-arms-loop-case : goal.invariant-arms-loop-case
invariant-arms-loop-case l =
    flaws_of_arms (known_in l.scan) (variables_in l.scope) (arm_trees (map arm_tree_of l.cases)) ≡ flaws_joined l.found (flaws_of_arms (known_in l.scan) (variables_in l.scope) (arm_trees (map arm_tree_of (drop l.case-index l.cases))))
