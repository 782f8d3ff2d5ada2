-- Tests of the parts of each form of patterns, terms and packed values, and of what is joined.
use Rattle.std.proofs.Common.{◌≡◌, ◌∙◌, refl, sym, ap, ap₂, Bool, true, false, ◌&&◌, List, [], ◌∷◌, ◌++◌, map}
use Rattle.std.specs.List.{list_all}
use Rattle.std.proofs.lemmas.Grind.{common_steps}
use Rattle.std.proofs.lemmas.List.Folds.{list_all-append}
use Rattle.ac_types.specs.Types.{Typ}
use Rattle.ac_terms.specs.Terms.{Pattern, Expr, PValue}
use Rattle.ac_terms.specs.Parts.{Portion, OfType, pattern_types, term_parts, value_parts}
use Rattle.ac_terms.specs.Read.{pattern_of, expr_of, value_of}
use Rattle.ac_terms.specs.declared.pat.Pat.{Pat}
use Rattle.ac_terms.specs.declared.term.Term.{Term}
use Rattle.ac_terms.specs.declared.term.PVal.{PVal}

-- the types of variables, as parts
pub types_pass : (p : Portion → Bool) (Ts : List Typ) → list_all p (map OfType Ts) ≡ list_all (λ (U : Typ). p (OfType U)) Ts
types_pass p [] = refl
types_pass p (T ∷ Ts) = ap (λ b. p (OfType T) && b) (types_pass p Ts)

pub ruleset list_laws = (list_all-append, common_steps)

-- the parts of an arm, and of those behind it
pub arm_joint : (p : Portion → Bool) (Ts : List Typ) (ps qs : List Portion) → list_all p ((map OfType Ts ++ ps) ++ qs) ≡ ((list_all (λ (U : Typ). p (OfType U)) Ts && list_all p ps) && list_all p qs)
arm_joint p Ts ps qs = list_all-append p (map OfType Ts ++ ps) qs ∙ ap (λ b. b && list_all p qs) (list_all-append p (map OfType Ts) ps ∙ ap (λ b. b && list_all p ps) (types_pass p Ts))

pub ruleset arm_laws = (arm_joint, common_steps)

-- what is answered of a form is so of what has it
pub of_pattern : (p : Typ → Bool) (q u : Pat) (e : Pattern) (b : Bool) → q ≡ u → pattern_of u ≡ e → b ≡ list_all p (pattern_types e) → b ≡ list_all p (pattern_types (pattern_of q))
of_pattern p q u e b is form so = so ∙ sym (ap (λ x. list_all p (pattern_types x)) (ap pattern_of is ∙ form))

pub of_term : (p : Portion → Bool) (t u : Term) (e : Expr) (b : Bool) → t ≡ u → expr_of u ≡ e → b ≡ list_all p (term_parts e) → b ≡ list_all p (term_parts (expr_of t))
of_term p t u e b is form so = so ∙ sym (ap (λ x. list_all p (term_parts x)) (ap expr_of is ∙ form))

pub of_value : (p : Portion → Bool) (v u : PVal) (e : PValue) (b : Bool) → v ≡ u → value_of u ≡ e → b ≡ list_all p (value_parts e) → b ≡ list_all p (value_parts (value_of v))
of_value p v u e b is form so = so ∙ sym (ap (λ x. list_all p (value_parts x)) (ap value_of is ∙ form))

pub both_so : {a b c d : Bool} → a ≡ b → c ≡ d → (a && c) ≡ (b && d)
both_so e f = ap₂ (λ x y. x && y) e f

and_true : (b : Bool) → b ≡ (b && true)
and_true true = refl
and_true false = refl

pub alone : {a b : Bool} → a ≡ b → a ≡ (b && true)
alone {a} {b} e = e ∙ and_true b
