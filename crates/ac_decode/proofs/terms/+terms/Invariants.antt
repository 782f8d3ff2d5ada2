use Rattle.std.proofs.Common.{◌≡◌, ◌-◌, ◌+◌, ◌*◌, map}
use Rattle.ac_terms.specs.Terms.{no_exprs, expr, no_arms, no_pvalues, pvalue}
use Rattle.ac_terms.specs.Read.{expr_of, arm_of, value_of}
use Rattle.ac_decode.specs.inner.ExactTerms.{an_arm, exact_pattern, exact_term, exact_value}
use Rattle.ac_terms.specs.PacketReading.{times, pair}
use Rattle.ac_decode_pieces.proofs.Loops.{with_front}
use Rattle.ac_decode.proofs.terms.+terms.Given as goal

-- five for each level
abbrev pub decreases-take_term : goal.decreases-take_term
decreases-take_term g l = 5 * l.depth

abbrev pub decreases-boxed_term : goal.decreases-boxed_term
decreases-boxed_term g l = 5 * l.depth + 1

abbrev pub decreases-two_terms : goal.decreases-two_terms
decreases-two_terms g l = 5 * l.depth + 2

abbrev pub decreases-three_terms : goal.decreases-three_terms
decreases-three_terms g l = 5 * l.depth + 3

abbrev pub decreases-all_terms : goal.decreases-all_terms
decreases-all_terms g l = 5 * l.depth + 1

abbrev pub decreases-with_arms : goal.decreases-with_arms
decreases-with_arms g l = 5 * l.depth + 4

abbrev pub decreases-counted_arms : goal.decreases-counted_arms
decreases-counted_arms g l = 5 * l.depth + 3

abbrev pub decreases-all_arms : goal.decreases-all_arms
decreases-all_arms g l = 5 * l.depth + 2

abbrev pub decreases-one_arm : goal.decreases-one_arm
decreases-one_arm g l = 5 * l.depth + 1

abbrev pub decreases-value : goal.decreases-value
decreases-value g l = 5 * l.depth

abbrev pub decreases-boxed_value : goal.decreases-boxed_value
decreases-boxed_value g l = 5 * l.depth + 1

abbrev pub decreases-function : goal.decreases-function
decreases-function g l = 5 * l.depth + 1

abbrev pub decreases-all_values : goal.decreases-all_values
decreases-all_values g l = 5 * l.depth + 1

abbrev pub invariant-all_terms-loop : goal.invariant-all_terms-loop
invariant-all_terms-loop g l =
    with_front expr (map expr_of l.items) (times no_exprs expr (exact_term (g.T.Types.reads_type l.types) l.within l.depth) (l.count - l.counter) l.cursor.left) ≡ times no_exprs expr (exact_term (g.T.Types.reads_type l.types) l.within l.depth) l.count l.fn.cursor.left

abbrev pub invariant-all_arms-loop : goal.invariant-all_arms-loop
invariant-all_arms-loop g l =
    with_front an_arm (map arm_of l.items) (times no_arms an_arm (pair (exact_pattern (g.T.Types.reads_type l.types) l.depth) (exact_term (g.T.Types.reads_type l.types) l.within l.depth)) (l.count - l.counter) l.cursor.left) ≡ times no_arms an_arm (pair (exact_pattern (g.T.Types.reads_type l.types) l.depth) (exact_term (g.T.Types.reads_type l.types) l.within l.depth)) l.count l.fn.cursor.left

abbrev pub invariant-all_values-loop : goal.invariant-all_values-loop
invariant-all_values-loop g l =
    with_front pvalue (map value_of l.items) (times no_pvalues pvalue (exact_value (g.T.Types.reads_type l.types) l.depth) (l.count - l.counter) l.cursor.left) ≡ times no_pvalues pvalue (exact_value (g.T.Types.reads_type l.types) l.depth) l.count l.fn.cursor.left
