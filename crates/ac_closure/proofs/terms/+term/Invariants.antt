use Rattle.std.proofs.Common.{◌≡◌, drop, map}
use Rattle.ac_terms.specs.Terms.{exprs, arms, pvalues}
use Rattle.ac_terms.specs.Parts.{all_term_parts, arm_parts, all_value_parts}
use Rattle.ac_terms.specs.Read.{expr_of, arm_of, value_of}
use Rattle.ac_closure.specs.inner.Chosen.{with_parts}
use Rattle.ac_closure.specs.inner.Names.{entry_named}
use Rattle.ac_closure.proofs.terms.+term.Given as goal

abbrev pub invariant-add_terms-loop-term : goal.invariant-add_terms-loop-term
invariant-add_terms-loop-term l =
    let find = entry_named l.names in
    with_parts find l.set (all_term_parts (exprs (map expr_of (drop l.term-index l.terms)))) ≡ with_parts find l.initial.set (all_term_parts (exprs (map expr_of l.terms)))

abbrev pub invariant-add_arms-loop-case : goal.invariant-add_arms-loop-case
invariant-add_arms-loop-case l =
    let find = entry_named l.names in
    with_parts find l.set (arm_parts (arms (map arm_of (drop l.case-index l.cases)))) ≡ with_parts find l.initial.set (arm_parts (arms (map arm_of l.cases)))

abbrev pub invariant-add_values-loop-value : goal.invariant-add_values-loop-value
invariant-add_values-loop-value l =
    let find = entry_named l.names in
    with_parts find l.set (all_value_parts (pvalues (map value_of (drop l.value-index l.values)))) ≡ with_parts find l.initial.set (all_value_parts (pvalues (map value_of l.values)))
