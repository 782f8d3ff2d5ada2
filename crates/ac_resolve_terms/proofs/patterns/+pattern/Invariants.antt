use Rattle.std.proofs.Common.{◌≡◌, map, take}
use Rattle.ac_terms.specs.Read.{pattern_of}
use Rattle.ac_resolve_names.specs.Fronts.{scope_of}
use Rattle.ac_resolve_terms.proofs.Made.{pattern_made}
use Rattle.ac_resolve_terms.proofs.patterns.+pattern.Given as goal

abbrev pub invariant-all-loop-tree : goal.invariant-all-loop-tree
invariant-all-loop-tree l = map pattern_of l.found ≡ map (pattern_made (scope_of l.scope)) (take l.tree-index l.trees)
