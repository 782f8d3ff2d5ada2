-- The types among some parts are small where those of each are.
use Rattle.std.proofs.Common.{◌≡◌, refl, ap, sym, ◌∙◌, true, List, [], ◌∷◌, ◌++◌, map}
use Rattle.std.specs.List.{list_all}
use Rattle.ac_types.specs.Types.{Typ, is_small}
use Rattle.ac_terms.specs.Parts.{Portion, OfType, OfRef, OfHome, Captured, part_types}
use Rattle.ac_terms.specs.Bounds.{has_small_types}
use Rattle.ac_terms.proofs.AllLaws.{all_left, all_right, all_append}

types_joined : (ps qs : List Portion) → part_types (ps ++ qs) ≡ part_types ps ++ part_types qs
types_joined [] qs = refl
types_joined (OfType T ∷ ps) qs = ap (λ Ts. T ∷ Ts) (types_joined ps qs)
types_joined (OfRef j x ∷ ps) qs = types_joined ps qs
types_joined (OfHome h ∷ ps) qs = types_joined ps qs
types_joined (Captured ∷ ps) qs = types_joined ps qs

pub small_join : (ps qs : List Portion) → has_small_types ps ≡ true → has_small_types qs ≡ true → has_small_types (ps ++ qs) ≡ true
small_join ps qs a b = ap (list_all is_small) (types_joined ps qs) ∙ all_append is_small (part_types ps) (part_types qs) a b

pub small_left : (ps qs : List Portion) → has_small_types (ps ++ qs) ≡ true → has_small_types ps ≡ true
small_left ps qs e = all_left is_small (part_types ps) (part_types qs) (ap (list_all is_small) (sym (types_joined ps qs)) ∙ e)

pub small_right : (ps qs : List Portion) → has_small_types (ps ++ qs) ≡ true → has_small_types qs ≡ true
small_right ps qs e = all_right is_small (part_types ps) (part_types qs) (ap (list_all is_small) (sym (types_joined ps qs)) ∙ e)

-- the types of variables, as parts
pub types_as_parts : (Ts : List Typ) → part_types (map OfType Ts) ≡ Ts
types_as_parts [] = refl
types_as_parts (T ∷ Ts) = ap (λ Us. T ∷ Us) (types_as_parts Ts)
