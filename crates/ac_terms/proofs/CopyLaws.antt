-- What the walk that copies trees makes of each list, and that with numbers that stay it makes what is there.
use Rattle.std.proofs.Common.{◌≡◌, ◌∙◌, ap, refl, ℕ, List, [], ◌∷◌, map, length, take}
use Rattle.std.specs.Prelude.{Result, Ok, Err, IfOk}
use Rattle.ac_types.specs.declared.memory.Memory.{Memory}
use Rattle.ac_types.proofs.Loops.{built_all}
use Rattle.ac_terms.specs.declared.term.Term.{Term}
use Rattle.ac_terms.specs.declared.term.Arm.{Arm}
use Rattle.ac_terms.specs.declared.term.PVal.{PVal}
use Rattle.ac_terms.specs.Terms.{Pattern, Expr, exprs, expr, arms, arm, PValue, pvalues, pvalue}
use Rattle.ac_terms.specs.Read.{expr_of, arm_of, value_of}
use Rattle.ac_terms.specs.Renumbered.{renumbered, all_renumbered, arms_renumbered, value_renumbered, values_renumbered}
use Rattle.ac_terms.proofs.ReadLaws.{term_laws as read_terms}
use Rattle.ac_terms.proofs.TermForms.{expr_of-ExnOf, expr_of-Match, expr_of-Try}
use Rattle.ac_terms.proofs.TermReading.{expr_of-injective, value_of-injective}
use Rattle.ac_terms.proofs.RenumberedLaws.{same_term, same_value}

pub ruleset term_laws = (read_terms, expr_of-Match, expr_of-Try, expr_of-ExnOf)

module _ (f : ℕ → ℕ) where
  abbrev pub term_made : Term → Expr
  term_made t = renumbered f (expr_of t)

  terms_made : (ts : List Term) → exprs (map term_made ts) ≡ all_renumbered f (exprs (map expr_of ts))
  terms_made [] = refl
  terms_made (t ∷ ts) = ap (expr (term_made t)) (terms_made ts)

  pub all_terms : (made : List Term) (i : ℕ) (ts : List Term) → i ≡ length ts → map expr_of made ≡ map term_made (take i ts) → exprs (map expr_of made) ≡ all_renumbered f (exprs (map expr_of ts))
  all_terms made i ts e so = ap exprs (built_all expr_of term_made made i ts e so) ∙ terms_made ts

  abbrev pub arm_made : Arm → Pattern × Expr
  arm_made a = ((arm_of a).0, renumbered f (arm_of a).1)

  arms_made : (cs : List Arm) → arms (map arm_made cs) ≡ arms_renumbered f (arms (map arm_of cs))
  arms_made [] = refl
  arms_made (a ∷ cs) = ap (arm (arm_made a).0 (arm_made a).1) (arms_made cs)

  pub all_arms : (made : List Arm) (i : ℕ) (cs : List Arm) → i ≡ length cs → map arm_of made ≡ map arm_made (take i cs) → arms (map arm_of made) ≡ arms_renumbered f (arms (map arm_of cs))
  all_arms made i cs e so = ap arms (built_all arm_of arm_made made i cs e so) ∙ arms_made cs

  abbrev pub value_made : PVal → PValue
  value_made v = value_renumbered f (value_of v)

  values_made : (vs : List PVal) → pvalues (map value_made vs) ≡ values_renumbered f (pvalues (map value_of vs))
  values_made [] = refl
  values_made (v ∷ vs) = ap (pvalue (value_made v)) (values_made vs)

  pub all_values : (made : List PVal) (i : ℕ) (vs : List PVal) → i ≡ length vs → map value_of made ≡ map value_made (take i vs) → pvalues (map value_of made) ≡ values_renumbered f (pvalues (map value_of vs))
  all_values made i vs e so = ap pvalues (built_all value_of value_made made i vs e so) ∙ values_made vs

-- with numbers that stay
pub same_copy : (r : Result Term Memory) (t : Term) → IfOk r (λ c. expr_of c ≡ renumbered (λ j. j) (expr_of t)) → IfOk r (λ c. c ≡ t)
same_copy (Ok c) t e = expr_of-injective c t (e ∙ same_term (expr_of t))
same_copy (Err _) t e = e

pub same_value_copy : (r : Result PVal Memory) (v : PVal) → IfOk r (λ c. value_of c ≡ value_renumbered (λ j. j) (value_of v)) → IfOk r (λ c. c ≡ v)
same_value_copy (Ok c) v e = value_of-injective c v (e ∙ same_value (value_of v))
same_value_copy (Err _) v e = e
