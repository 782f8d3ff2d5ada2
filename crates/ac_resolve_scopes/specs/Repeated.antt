-- The search for what is repeated: a type or a value twice in one signature, struct or likespec, a variable twice in one pattern, a mark's name twice, a definition called `IO` or `Str`. What is found is the place of the later name, of a mark that of its string.
use Rattle.std.specs.Prelude.{ℕ, true, false, List, [], ◌∷◌, map, flat_map, Option, Some, None, unwrap_or}
use Rattle.ac_types.specs.Types.{Bytes}
use Rattle.ac_syntax.specs.Trees.{NameAt, AbbrevTree, SpecTree, AbstractSpec, ManifestSpec, ValSpec, SigTree, FieldTree, AbbrevField, ValField, DefTree, ModuleDef, ImportDef, MarkDef}
use Rattle.ac_resolve_scopes.specs.Standard.{is_standard}
use Rattle.ac_resolve_scopes.specs.Scopes.{NameScope, binders_to}
use Rattle.ac_resolve_scopes.specs.Written.{pattern_names}
use Rattle.ac_resolve_scopes.specs.Searches.{Search, least, found_in_def}

-- the place, where something is there
abbrev pub place_where_there : {A : Type 0} → Option A → ℕ → Option ℕ
place_where_there None at = None
place_where_there (Some x) at = Some at

-- the least place of a name that stands before it too, also among those that were seen before
abbrev pub repeated_name : List Bytes → List NameAt → Option ℕ
repeated_name seen [] = None
repeated_name seen (x ∷ names) = least (place_where_there (binders_to x.word seen) x.at) (repeated_name (x.word ∷ seen) names)

-- a name twice among those that some items give
abbrev pub twice : {A : Type 0} → (A → List NameAt) → List A → Option ℕ
twice names items = repeated_name [] (flat_map names items)

-- in expressions patterns alone repeat names
abbrev pub repeated : Search
repeated = record {
  ty = λ S T. None;
  pattern = λ S p. repeated_name [] (pattern_names p);
  variable = λ S at x. None;
  dotted = λ S m x. None;
  constant = λ S. None;
  parts = λ n. None;
  arms = λ n. None;
}

-- the names of types and of values in a signature and a struct
abbrev pub spec_type_name : SpecTree → List NameAt
spec_type_name (AbstractSpec name) = name ∷ []
spec_type_name (ManifestSpec a) = a.name ∷ []
spec_type_name (ValSpec name ty) = []

abbrev pub spec_value_name : SpecTree → List NameAt
spec_value_name (ValSpec name ty) = name ∷ []
spec_value_name _ = []

abbrev pub field_type_name : FieldTree → List NameAt
field_type_name (AbbrevField a) = a.name ∷ []
field_type_name (ValField name ty body) = []

abbrev pub field_value_name : FieldTree → List NameAt
field_value_name (AbbrevField a) = []
field_value_name (ValField name ty body) = name ∷ []

abbrev pub repeated_in_sig : SigTree → Option ℕ
repeated_in_sig σ = least (twice spec_type_name σ.specs) (twice spec_value_name σ.specs)

abbrev pub repeated_in_struct : List FieldTree → Option ℕ
repeated_in_struct fields = least (twice field_type_name fields) (twice field_value_name fields)

abbrev pub repeated_in_like : List AbbrevTree → Option ℕ
repeated_in_like like = repeated_name [] (map (λ (a : AbbrevTree). a.name) like)

-- the names of the standard modules are taken
abbrev pub standard_name : NameAt → Option ℕ
standard_name name = elim (is_standard name.word) [ true ↦ Some name.at | false ↦ None ]

abbrev pub repeated_in_lists : DefTree → Option ℕ
repeated_in_lists (ModuleDef at name σ version fields) = least (standard_name name) (least (repeated_in_sig σ) (repeated_in_struct fields))
repeated_in_lists (ImportDef at name σ wants like by) = least (standard_name name) (least (repeated_in_sig σ) (repeated_in_like (unwrap_or like [])))
repeated_in_lists (MarkDef at text_at text) = None

abbrev pub repeated_in_def : NameScope → DefTree → Option ℕ
repeated_in_def S d = least (repeated_in_lists d) (found_in_def repeated S d)

-- the names of marks, at the place of their strings
abbrev pub mark_name : DefTree → List NameAt
mark_name (MarkDef at text_at text) = record { at = text_at; word = text } ∷ []
mark_name _ = []
