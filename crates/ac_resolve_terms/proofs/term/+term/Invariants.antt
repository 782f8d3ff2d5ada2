use Rattle.std.proofs.Common.{◌≡◌, map, take}
use Rattle.ac_terms.specs.Read.{expr_of, arm_of}
use Rattle.ac_resolve_names.specs.Fronts.{scope_of}
use Rattle.ac_resolve_terms.proofs.Made.{term_made, arm_made}
use Rattle.ac_resolve_terms.proofs.term.+term.Given as goal

abbrev pub invariant-all-loop-tree : goal.invariant-all-loop-tree
invariant-all-loop-tree l = map expr_of l.terms ≡ map (term_made (scope_of l.scope)) (take l.tree-index l.parts)

abbrev pub invariant-arms-loop-case : goal.invariant-arms-loop-case
invariant-arms-loop-case l = map arm_of l.found ≡ map (arm_made (scope_of l.scope)) (take l.case-index l.cases)
