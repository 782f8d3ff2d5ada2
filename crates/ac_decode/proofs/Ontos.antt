-- Each kind of list is its items in front of the empty one.
use Rattle.std.proofs.Common.{◌≡◌, refl, ap, List, [], ◌∷◌}
use Rattle.ac_terms.specs.Terms.{Pattern, no_patterns, pattern', patterns, Expr, no_exprs, expr, exprs, no_arms, arms, PValue, no_pvalues, pvalue, pvalues}
use Rattle.ac_decode_pieces.proofs.Loops.{onto}
use Rattle.ac_decode.specs.inner.ExactTerms.{an_arm}

pub onto_patterns : (xs : List Pattern) → patterns xs ≡ onto pattern' xs no_patterns
onto_patterns [] = refl
onto_patterns (x ∷ xs) = ap (pattern' x) (onto_patterns xs)

pub onto_terms : (xs : List Expr) → exprs xs ≡ onto expr xs no_exprs
onto_terms [] = refl
onto_terms (x ∷ xs) = ap (expr x) (onto_terms xs)

pub onto_arms : (xs : List (Pattern × Expr)) → arms xs ≡ onto an_arm xs no_arms
onto_arms [] = refl
onto_arms (x ∷ xs) = ap (an_arm x) (onto_arms xs)

pub onto_values : (xs : List PValue) → pvalues xs ≡ onto pvalue xs no_pvalues
onto_values [] = refl
onto_values (x ∷ xs) = ap (pvalue x) (onto_values xs)
