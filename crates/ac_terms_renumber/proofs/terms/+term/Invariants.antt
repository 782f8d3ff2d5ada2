use Rattle.std.proofs.Common.{◌≡◌, drop, map}
use Rattle.std.specs.List.{list_all}
use Rattle.ac_terms.specs.Terms.{exprs, arms, pvalues}
use Rattle.ac_terms.specs.Parts.{all_term_parts, arm_parts, all_value_parts}
use Rattle.ac_terms.specs.Read.{expr_of, arm_of, value_of}
use Rattle.ac_terms_renumber.proofs.terms.+term.Given as goal

abbrev pub invariant-terms_pass-loop-term : goal.invariant-terms_pass-loop-term
invariant-terms_pass-loop-term g l =
    list_all (g.T.Test.passes l.test) (all_term_parts (exprs (map expr_of l.terms))) ≡ list_all (g.T.Test.passes l.test) (all_term_parts (exprs (map expr_of (drop l.term-index l.terms))))

abbrev pub invariant-arms_pass-loop-case : goal.invariant-arms_pass-loop-case
invariant-arms_pass-loop-case g l =
    list_all (g.T.Test.passes l.test) (arm_parts (arms (map arm_of l.cases))) ≡ list_all (g.T.Test.passes l.test) (arm_parts (arms (map arm_of (drop l.case-index l.cases))))

abbrev pub invariant-values_pass-loop-value : goal.invariant-values_pass-loop-value
invariant-values_pass-loop-value g l =
    list_all (g.T.Test.passes l.test) (all_value_parts (pvalues (map value_of l.values))) ≡ list_all (g.T.Test.passes l.test) (all_value_parts (pvalues (map value_of (drop l.value-index l.values))))
