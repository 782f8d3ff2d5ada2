use Rattle.std.proofs.Common.{◌≡◌, drop, map}
use Rattle.std.specs.Prelude.{nat_le}
use Rattle.ac_terms.specs.Terms.{exprs, arms, pvalues}
use Rattle.ac_terms.specs.Nesting.{depth, arm_depth, value_depth}
use Rattle.ac_terms.specs.Read.{expr_of, arm_of, value_of}
use Rattle.ac_pack_definitions.proofs.nesting.+term.Given as goal

abbrev pub invariant-terms_nest-loop-term : goal.invariant-terms_nest-loop-term
invariant-terms_nest-loop-term l = nat_le (depth (exprs (map expr_of l.terms))) l.most ≡ nat_le (depth (exprs (map expr_of (drop l.term-index l.terms)))) l.most

abbrev pub invariant-arms_nest-loop-case : goal.invariant-arms_nest-loop-case
invariant-arms_nest-loop-case l = nat_le (arm_depth (arms (map arm_of l.cases))) l.most ≡ nat_le (arm_depth (arms (map arm_of (drop l.case-index l.cases)))) l.most

abbrev pub invariant-values_nest-loop-value : goal.invariant-values_nest-loop-value
invariant-values_nest-loop-value l = nat_le (value_depth (pvalues (map value_of l.values))) l.most ≡ nat_le (value_depth (pvalues (map value_of (drop l.value-index l.values)))) l.most
