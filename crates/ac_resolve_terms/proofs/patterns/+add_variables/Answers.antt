use Rattle.std.proofs.Common.{◌≡◌, refl, arith, length, map, List}
use Rattle.ac_syntax.specs.declared.surface.SPat.{SPat}
use Rattle.ac_syntax.specs.Trees.{NameAt, pat_trees}
use Rattle.ac_syntax.specs.ReadTrees.{name_of, pat_of}
use Rattle.ac_resolve_scopes.specs.Written.{pattern_names, pattern_names_of_all}
use Rattle.ac_types.proofs.Loops.{lengthened, lengthened_all}
use Rattle.ac_resolve_terms.proofs.patterns.+add_variables.Goals as goal

abbrev of_all : List SPat → List NameAt
of_all ps = pattern_names_of_all (pat_trees (map pat_of ps))

pub add_variables_of_all-loop-tree-preserved : goal.add_variables_of_all-loop-tree-preserved
add_variables_of_all-loop-tree-preserved t c =
    lengthened of_all (λ p. pattern_names (pat_of p)) (λ p ps. refl) _ (map name_of c.loop-tree.names) _ _ _ _ c.loop-tree-test.true c.tree-item.is c.loop-tree.invariant c.in_ok-more.ensures

pub add_variables_of_all-returns : goal.add_variables_of_all-returns
add_variables_of_all-returns t c = let e : c.loop-tree.tree-index ≡ length c.args.trees.now = omega arith in lengthened_all of_all _ (map name_of c.loop-tree.names) _ _ refl e c.loop-tree.invariant
