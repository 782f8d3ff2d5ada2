-- The reading of fields that are made with other numbers.
use Rattle.std.proofs.Common.{◌≡◌, ◌∙◌, ap, refl, ℕ, List, [], ◌∷◌, map, length, take}
use Rattle.ac_types.proofs.Loops.{built_all}
use Rattle.ac_terms.specs.declared.def.Field as code_field
use Rattle.ac_terms.specs.Defs.{Field}
use Rattle.ac_terms.specs.Read.{field_of}
use Rattle.ac_terms.specs.Renumbered.{field_renumbered}

module _ (f : ℕ → ℕ) where
  abbrev pub field_made : code_field.Field → Field
  field_made x = field_renumbered f (field_of x)

  fields_made : (xs : List code_field.Field) → map field_made xs ≡ map (field_renumbered f) (map field_of xs)
  fields_made [] = refl
  fields_made (x ∷ xs) = ap (λ ys. field_made x ∷ ys) (fields_made xs)

  pub all_fields : (made : List code_field.Field) (i : ℕ) (xs : List code_field.Field) → i ≡ length xs → map field_of made ≡ map field_made (take i xs) → map field_of made ≡ map (field_renumbered f) (map field_of xs)
  all_fields made i xs e so = built_all field_of field_made made i xs e so ∙ fields_made xs
