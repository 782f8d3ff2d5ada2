use Rattle.std.proofs.Common.{◌≡◌, arith, length}
use Rattle.ac_terms.specs.Read.{pattern_of}
use Rattle.ac_types.proofs.Loops.{built}
use Rattle.ac_resolve_names.specs.Fronts.{scope_of}
use Rattle.ac_resolve_terms.proofs.Made.{pattern_made, all_patterns}
use Rattle.ac_resolve_terms.proofs.patterns.+pattern.Goals as goal

pub all-loop-tree-preserved : goal.all-loop-tree-preserved
all-loop-tree-preserved t c =
    built pattern_of (pattern_made (scope_of c.args.scope.now)) _ _ _ _ _ _ c.loop-tree.invariant c.loop-tree-test.true c.tree-item.is c.in_ok-push.ensures.ok c.in_ok-made.ensures

pub all-returns : goal.all-returns
all-returns t c = let e : c.loop-tree.tree-index ≡ length c.args.trees.now = omega arith in all_patterns (scope_of c.args.scope.now) _ _ _ e c.loop-tree.invariant
