-- How far patterns, terms and packed values nest, test by test.
use Rattle.std.proofs.Common.{◌≡◌, ℕ, ◌+◌, ◌≤◌, true, false, arith}
use Rattle.std.specs.Prelude.{◌&&◌, nat_le, max}
use Rattle.std.proofs.lemmas.Bool.Decides.{nat_tests}
use Rattle.ac_terms.specs.Terms.{Pattern, PWild, Expr, Int, PValue, KInt}
use Rattle.ac_terms.specs.Nesting.{pattern_nesting, nesting, value_nesting}
use Rattle.ac_terms.proofs.PatternForms.{pattern_forms}
use Rattle.ac_terms.proofs.TermForms.{term_forms}
use Rattle.ac_terms.proofs.ValueForms.{value_forms}

-- one level down
pub nests_under : (n m : ℕ) → nat_le (n + 1) (m + 1) ≡ nat_le n m
nests_under n m = grind (arith, nat_tests)

pub nests_both : (a b m : ℕ) → nat_le (max a b) m ≡ (nat_le a m && nat_le b m)
nests_both a b m = grind (arith, nat_tests)

pub nests_last : (m : ℕ) → nat_le 1 (m + 1) ≡ true
nests_last m = grind (arith, nat_tests)

too_deep : (n : ℕ) → 1 ≤ n → nat_le n 0 ≡ false
too_deep n h = grind (arith, nat_tests)

pattern_some : (p : Pattern) → 1 ≤ pattern_nesting p
pattern_some PWild = omega arith
pattern_some p = omega arith

term_some : (e : Expr) → 1 ≤ nesting e
term_some (Int n) = omega arith
term_some e = omega arith

value_some : (v : PValue) → 1 ≤ value_nesting v
value_some (KInt n) = omega arith
value_some v = omega arith

pub no_pattern : (p : Pattern) → nat_le (pattern_nesting p) 0 ≡ false
no_pattern p = too_deep (pattern_nesting p) (pattern_some p)

pub no_term : (e : Expr) → nat_le (nesting e) 0 ≡ false
no_term e = too_deep (nesting e) (term_some e)

pub no_value : (v : PValue) → nat_le (value_nesting v) 0 ≡ false
no_value v = too_deep (value_nesting v) (value_some v)

pub ruleset tests = (nests_under, nests_both, nests_last)

pub ruleset pattern_laws = (pattern_forms, no_pattern, tests)

pub ruleset term_laws = (term_forms, value_forms, no_term, no_value, tests)
