use Rattle.std.proofs.Common.{◌≡◌, ◌++◌, drop, map}
use Rattle.ac_terms.specs.Terms.{exprs, arms, pvalues}
use Rattle.ac_terms.specs.Read.{expr_of, arm_of, value_of}
use Rattle.ac_terms.specs.SpelledBy.{all_term_bytes, arm_bytes, all_value_bytes}
use Rattle.ac_canon.proofs.terms.+term.Given as goal

abbrev pub invariant-put_terms-loop-term : goal.invariant-put_terms-loop-term
invariant-put_terms-loop-term g l =
    let bytes = all_term_bytes (g.S.Spelling.spelled_type l.spelling) (g.S.Spelling.spelled_reference l.spelling) in
    l.out ++ bytes (exprs (map expr_of (drop l.term-index l.terms))) ≡ l.initial.out ++ bytes (exprs (map expr_of l.terms))

abbrev pub invariant-put_arms-loop-case : goal.invariant-put_arms-loop-case
invariant-put_arms-loop-case g l =
    let bytes = arm_bytes (g.S.Spelling.spelled_type l.spelling) (g.S.Spelling.spelled_reference l.spelling) in
    l.out ++ bytes (arms (map arm_of (drop l.case-index l.cases))) ≡ l.initial.out ++ bytes (arms (map arm_of l.cases))

abbrev pub invariant-put_values-loop-value : goal.invariant-put_values-loop-value
invariant-put_values-loop-value g l =
    let bytes = all_value_bytes (g.S.Spelling.spelled_type l.spelling) (g.S.Spelling.spelled_reference l.spelling) in
    l.out ++ bytes (pvalues (map value_of (drop l.value-index l.values))) ≡ l.initial.out ++ bytes (pvalues (map value_of l.values))
