-- How many terms, arms and packed values a list of them has, and what the writing of terms and values rests on.
use Rattle.std.proofs.Common.{◌≡◌, ap, refl, suc, List, [], ◌∷◌, map, length}
use Rattle.ac_terms.specs.declared.term.Term.{Term}
use Rattle.ac_terms.specs.declared.term.Arm.{Arm}
use Rattle.ac_terms.specs.declared.term.PVal.{PVal}
use Rattle.ac_terms.specs.Terms.{exprs, arms, pvalues}
use Rattle.ac_terms.specs.Read.{expr_of, arm_of, value_of}
use Rattle.ac_terms.specs.Spelling.{term_count, arm_count, value_count}
use Rattle.ac_terms.proofs.TermForms.{term_forms}
use Rattle.ac_terms.proofs.ValueForms.{value_forms}
use Rattle.ac_canon.proofs.Joins.{joins}

pub count_terms : (ts : List Term) → term_count (exprs (map expr_of ts)) ≡ length ts
count_terms [] = refl
count_terms (t ∷ ts) = ap suc (count_terms ts)

pub count_arms : (cases : List Arm) → arm_count (arms (map arm_of cases)) ≡ length cases
count_arms [] = refl
count_arms (c ∷ cases) = ap suc (count_arms cases)

pub count_values : (vs : List PVal) → value_count (pvalues (map value_of vs)) ≡ length vs
count_values [] = refl
count_values (v ∷ vs) = ap suc (count_values vs)

pub ruleset term_laws = (term_forms, count_terms, count_arms, joins)

pub ruleset value_laws = (value_forms, count_values, joins)
