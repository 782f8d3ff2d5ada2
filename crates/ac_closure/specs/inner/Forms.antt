-- The types and parts that a definition is joined of.
use Rattle.std.specs.Prelude.{List, ◌∷◌, map, flat_map, option_to_list}
use Rattle.ac_types.specs.Types.{Typ}
use Rattle.ac_types.specs.Sigs.{Typed_name, Sig_type}
use Rattle.ac_terms.specs.Defs.{Field}
use Rattle.ac_terms.specs.Parts.{Portion, OfType, term_parts}

-- the manifest types of a signature
abbrev pub manifest_types : List Sig_type → List Typ
manifest_types ts = flat_map (λ (t : Sig_type). option_to_list t.manifest) ts

-- the types beside some names
abbrev pub types_beside : List Typed_name → List Typ
types_beside ts = map (λ (t : Typed_name). t.ty) ts

-- the parts of fields
abbrev pub field_parts : List Field → List Portion
field_parts fs = flat_map (λ (f : Field). OfType f.ty ∷ term_parts f.term) fs
