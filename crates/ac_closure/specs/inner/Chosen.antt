-- How a set of entries grows by what parts speak of. It has a flag for each entry.
use Rattle.std.specs.Prelude.{ℕ, Bool, true, List, [], ◌∷◌, Option, Some, None, slice_set}
use Rattle.ac_types.specs.Types.{Bytes, Typ, mentions}
use Rattle.ac_terms.specs.Terms.{Home, Main, In}
use Rattle.ac_terms.specs.Parts.{Portion, OfType, OfRef, OfHome, Captured}

-- with an entry that is there
abbrev pub with_one_entry : List Bool → ℕ → List Bool
with_one_entry set j = slice_set set j true

abbrev pub with_entries : List Bool → List ℕ → List Bool
with_entries set [] = set
with_entries set (j ∷ js) = with_entries (with_one_entry set j) js

-- with the entry that was found, if one was
abbrev pub with_found : List Bool → Option ℕ → List Bool
with_found set None = set
with_found set (Some j) = with_one_entry set j

abbrev pub with_home : List Bool → Home → List Bool
with_home set Main = set
with_home set (In k) = with_one_entry set k

-- where a name is looked up by `find`
module _ (find : Bytes → Option ℕ) where
  abbrev pub with_mentions : List Bool → List (Bytes × Bytes) → List Bool
  with_mentions set [] = set
  with_mentions set (p ∷ ps) = with_mentions (with_found set (find p.0)) ps

  abbrev pub with_type : List Bool → Typ → List Bool
  with_type set T = with_mentions set (mentions T)

  abbrev pub with_types : List Bool → List Typ → List Bool
  with_types set [] = set
  with_types set (T ∷ Ts) = with_types (with_type set T) Ts

  abbrev pub with_part : List Bool → Portion → List Bool
  with_part set (OfType T) = with_type set T
  with_part set (OfRef j x) = with_one_entry set j
  with_part set (OfHome h) = with_home set h
  with_part set Captured = set

  abbrev pub with_parts : List Bool → List Portion → List Bool
  with_parts set [] = set
  with_parts set (p ∷ ps) = with_parts (with_part set p) ps
