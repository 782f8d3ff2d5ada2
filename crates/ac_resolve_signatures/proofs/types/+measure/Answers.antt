use Rattle.std.proofs.Common.{◌≡◌, ◌∙◌, ap, refl, arith, length, map, List}
use Rattle.ac_syntax.specs.declared.surface.SType.{SType}
use Rattle.ac_syntax.specs.Trees.{type_trees}
use Rattle.ac_syntax.specs.ReadTrees.{type_tree_of}
use Rattle.ac_resolve_signatures.specs.declared.types.Measured.{Measured}
use Rattle.ac_resolve_signatures.specs.KnownScopes.{KnownScope}
use Rattle.ac_resolve_signatures.specs.TypeFlaws.{measured, measured_both, measured_all}
use Rattle.ac_resolve_signatures.specs.Reads.{known_in}
use Rattle.ac_types.proofs.Loops.{next_fold, last_fold}
use Rattle.ac_resolve_signatures.proofs.types.+measure.Goals as goal

abbrev of_all : KnownScope → Measured → List SType → Measured
of_all K m trees = measured_all K m (type_trees (map type_tree_of trees))

pub all-loop-tree-preserved : goal.all-loop-tree-preserved
all-loop-tree-preserved t c =
    let K = known_in c.args.scan.now in
    next_fold (of_all K) (λ m tree. measured_both m (measured K (type_tree_of tree))) (λ m tree trees. refl) _ c.loop-tree.found c.beside-found.result _ _ _ c.loop-tree-test.true c.tree-item.is c.loop-tree.invariant (c.beside-found.ensures ∙ ap (measured_both c.loop-tree.found) c.measure-here.ensures)

pub all-returns : goal.all-returns
all-returns t c = let e : c.loop-tree.tree-index ≡ length c.args.trees.now = omega arith in last_fold (of_all (known_in c.args.scan.now)) _ c.loop-tree.found _ _ e c.loop-tree.invariant
