-- The reading of each form that holds a list, and how a set grows by what is joined.
use Rattle.std.proofs.Common.{◌≡◌, refl, ℕ, Bool, List, [], ◌∷◌, ◌++◌, map, Option}
use Rattle.std.proofs.lemmas.Grind.{common_steps}
use Rattle.ac_types.specs.Types.{Bytes, Typ}
use Rattle.ac_types.proofs.SizeLaws.{type_laws as read_types}
use Rattle.ac_terms.specs.declared.pat.Pat.TheViews as pat_views
use Rattle.ac_terms.specs.Parts.{Portion, OfType}
use Rattle.ac_terms.proofs.ReadLaws.{term_laws as read_terms}
use Rattle.ac_terms.proofs.PatternForms.{pattern_out, pattern_of-Tuple}
use Rattle.ac_terms.proofs.TermForms.{expr_of-Match, expr_of-Try}
use Rattle.ac_terms.proofs.ValueForms.{value_out, value_of-Tuple, value_of-List}
use Rattle.ac_closure.specs.inner.Chosen.{with_found, with_mentions, with_type, with_types, with_part, with_parts}

-- a set grows by what is joined as by each in turn
pub with_mentions-append : (find : Bytes → Option ℕ) (set : List Bool) (xs ys : List (Bytes × Bytes)) → with_mentions find set (xs ++ ys) ≡ with_mentions find (with_mentions find set xs) ys
with_mentions-append find set [] ys = refl
with_mentions-append find set (x ∷ xs) ys = with_mentions-append find (with_found set (find x.0)) xs ys

pub with_types-append : (find : Bytes → Option ℕ) (set : List Bool) (Ts Us : List Typ) → with_types find set (Ts ++ Us) ≡ with_types find (with_types find set Ts) Us
with_types-append find set [] Us = refl
with_types-append find set (T ∷ Ts) Us = with_types-append find (with_type find set T) Ts Us

pub with_parts-append : (find : Bytes → Option ℕ) (set : List Bool) (ps qs : List Portion) → with_parts find set (ps ++ qs) ≡ with_parts find (with_parts find set ps) qs
with_parts-append find set [] qs = refl
with_parts-append find set (p ∷ ps) qs = with_parts-append find (with_part find set p) ps qs

pub with_parts-types : (find : Bytes → Option ℕ) (set : List Bool) (Ts : List Typ) → with_parts find set (map OfType Ts) ≡ with_types find set Ts
with_parts-types find set [] = refl
with_parts-types find set (T ∷ Ts) = with_parts-types find (with_type find set T) Ts

pub ruleset type_laws = (read_types, with_mentions-append, common_steps)

pub ruleset pattern_laws = (pattern_out, pattern_of-Tuple, pat_views.the_lemmas, with_types-append, common_steps)

pub ruleset term_laws = (read_terms, expr_of-Match, expr_of-Try, value_out, value_of-Tuple, value_of-List, with_parts-append, with_parts-types, common_steps)

pub ruleset value_laws = (value_out, value_of-Tuple, value_of-List, read_terms, with_parts-append, common_steps)
