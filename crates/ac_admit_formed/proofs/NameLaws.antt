-- The names of lists of the code.
use Rattle.std.proofs.Common.{◌≡◌, refl, ap, List, [], ◌∷◌, map}
use Rattle.ac_types.specs.Types.{Bytes}
use Rattle.ac_types.specs.Sigs.{Sig_type, Typed_name}
use Rattle.ac_types.specs.ReadTypes.{sig_type_of, typed_of}
use Rattle.ac_types.specs.declared.sig.SigType.{SigType}
use Rattle.ac_types.specs.declared.sig.TyField.{TyField}
use Rattle.ac_terms.specs.declared.def.Field as code_field
use Rattle.ac_terms.specs.Defs.{Field}
use Rattle.ac_terms.specs.Read.{field_of}

pub spec_names : (xs : List SigType) → map (λ (x : Sig_type). x.name) (map sig_type_of xs) ≡ map (λ (x : SigType). x.name) xs
spec_names [] = refl
spec_names (x ∷ xs) = ap (λ (ns : List Bytes). x.name ∷ ns) (spec_names xs)

pub typed_names : (xs : List TyField) → map (λ (x : Typed_name). x.name) (map typed_of xs) ≡ map (λ (x : TyField). x.name) xs
typed_names [] = refl
typed_names (x ∷ xs) = ap (λ (ns : List Bytes). x.name ∷ ns) (typed_names xs)

pub field_names : (xs : List code_field.Field) → map (λ (x : Field). x.name) (map field_of xs) ≡ map (λ (x : code_field.Field). x.name) xs
field_names [] = refl
field_names (x ∷ xs) = ap (λ (ns : List Bytes). x.name ∷ ns) (field_names xs)

pub ruleset list_names = (spec_names, typed_names, field_names)
