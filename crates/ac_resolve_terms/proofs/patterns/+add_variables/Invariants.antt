use Rattle.std.proofs.Common.{◌≡◌, ◌++◌, map, drop}
use Rattle.ac_syntax.specs.Trees.{pat_trees}
use Rattle.ac_syntax.specs.ReadTrees.{name_of, pat_of}
use Rattle.ac_resolve_scopes.specs.Written.{pattern_names_of_all}
use Rattle.ac_resolve_terms.proofs.patterns.+add_variables.Given as goal

abbrev pub invariant-add_variables_of_all-loop-tree : goal.invariant-add_variables_of_all-loop-tree
invariant-add_variables_of_all-loop-tree l =
    map name_of l.fn.found ++ pattern_names_of_all (pat_trees (map pat_of l.trees)) ≡ map name_of l.names ++ pattern_names_of_all (pat_trees (map pat_of (drop l.tree-index l.trees)))
