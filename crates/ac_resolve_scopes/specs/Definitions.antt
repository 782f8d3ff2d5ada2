-- The definitions that trees write in a scope, and the entries that they become.
use Rattle.std.specs.Prelude.{List, [], ◌∷◌, Some, None, option_and_then, unwrap_or}
use Rattle.ac_types.specs.Types.{Bytes, TMine}
use Rattle.ac_types.specs.Sigs.{Typed_name, Sig_type, Signature, MyName, Constraint, Exact}
use Rattle.ac_terms.specs.Defs.{Field, Def, AModule, AnImport, AMark, Own', Entry, name_at}
use Rattle.ac_terms.specs.Names.{name_by}
use Rattle.ac_syntax.specs.Trees.{AbbrevTree, SpecTree, AbstractSpec, ManifestSpec, ValSpec, SigTree, FieldTree, AbbrevField, ValField, WantsTree, WantsVersion, WantsName, DefTree, ModuleDef, ImportDef, MarkDef}
use Rattle.ac_resolve_scopes.specs.Scopes.{NameScope, definition, with_type_name, with_field, with_entry, each_in}
use Rattle.ac_resolve_scopes.specs.Written.{type_in, term_in}

-- the scope behind an abbreviation, a spec, an item of a struct
abbrev pub after_abbrev : NameScope → AbbrevTree → NameScope
after_abbrev S a = with_type_name a.name (type_in S a.ty) S

abbrev pub after_spec : NameScope → SpecTree → NameScope
after_spec S (AbstractSpec name) = with_type_name name (TMine name.word) S
after_spec S (ManifestSpec a) = after_abbrev S a
after_spec S (ValSpec name ty) = S

abbrev pub after_field : NameScope → FieldTree → NameScope
after_field S (AbbrevField a) = after_abbrev S a
after_field S (ValField name ty body) = with_field name S

-- the types and the values of a signature
abbrev pub spec_type : NameScope → SpecTree → List Sig_type
spec_type S (AbstractSpec name) = record { name = name.word; manifest = None } ∷ []
spec_type S (ManifestSpec a) = record { name = a.name.word; manifest = Some (type_in S a.ty) } ∷ []
spec_type S (ValSpec name ty) = []

abbrev pub spec_value : NameScope → SpecTree → List Typed_name
spec_value S (ValSpec name ty) = record { name = name.word; ty = type_in S ty } ∷ []
spec_value _ _ = []

abbrev pub signature_in : NameScope → SigTree → Signature
signature_in S σ = record { types = each_in after_spec spec_type S σ.specs; vals = each_in after_spec spec_value S σ.specs }

-- the types of a likespec, and the types and the fields of a struct
abbrev pub abbrev_type : NameScope → AbbrevTree → List Typed_name
abbrev_type S a = record { name = a.name.word; ty = type_in S a.ty } ∷ []

abbrev pub item_type : NameScope → FieldTree → List Typed_name
item_type S (AbbrevField a) = abbrev_type S a
item_type S (ValField name ty body) = []

abbrev pub item_field : NameScope → FieldTree → List Field
item_field S (AbbrevField a) = []
item_field S (ValField name ty body) = record { name = name.word; ty = type_in S ty; term = term_in S body } ∷ []

-- what an import asks for: by exact name it is the name that the entry which is called so keeps
abbrev pub constraint_in : NameScope → WantsTree → Constraint
constraint_in S (WantsVersion constraint) = constraint
constraint_in S (WantsName name) = Exact (unwrap_or (option_and_then (name_at S.entries) (definition S name.word)) [])

-- a missing version is `myname`; signature, struct and likespec each begin in the scope of the definition
abbrev pub def_in : NameScope → DefTree → Def
def_in S (ModuleDef at name σ version fields) =
    AModule (record {
      name = name.word;
      version = unwrap_or version (MyName ∷ []);
      sig = signature_in S σ;
      types = each_in after_field item_type S fields;
      fields = each_in after_field item_field S fields;
    })
def_in S (ImportDef at name σ wants like by) =
    AnImport (record {
      name = name.word;
      sig = signature_in S σ;
      constraint = constraint_in S wants;
      like = each_in after_abbrev abbrev_type S (unwrap_or like []);
      by = by;
    })
def_in S (MarkDef at text_at text) = AMark text

-- nothing below asks more of a digest than that it is a function
module _ (digest : Bytes → Bytes) where
  -- an own entry with its name, not linked yet, and the scope behind it
  abbrev pub entry_in : NameScope → DefTree → Entry
  entry_in S d = record { def = def_in S d; name = name_by digest S.entries (def_in S d); seen = Own'; link = None }

  abbrev pub after_def : NameScope → DefTree → NameScope
  after_def S d = with_entry S (entry_in S d)
