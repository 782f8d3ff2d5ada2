-- What is wrong with definitions, by what is known of a scope.
use Rattle.std.specs.Prelude.{is_some, List, [], map, flat_map, Option, unwrap_or}
use Rattle.ac_types.specs.Types.{Bytes}
use Rattle.ac_types.specs.Sigs.{Resolve}
use Rattle.ac_syntax.specs.Trees.{NameAt, AbbrevTree, FieldTree, AbbrevField, ValField, WantsTree, WantsVersion, WantsName, DefTree, ModuleDef, ImportDef, MarkDef}
use Rattle.ac_resolve_scopes.specs.Repeated.{field_type_name, field_value_name}
use Rattle.ac_resolve_scopes.specs.Counts.{many_atoms}
use Rattle.ac_resolve_signatures.specs.declared.flaws.Flaws.{Flaws}
use Rattle.ac_resolve_signatures.specs.Joined.{no_flaws, missing, counts, flaws_joined}
use Rattle.ac_resolve_signatures.specs.KnownScopes.{KnownScope, Members, known_outside, updated, with_named_field}
use Rattle.ac_resolve_signatures.specs.TypeFlaws.{type_flaws}
use Rattle.ac_resolve_faults.specs.inner.ExprFlaws.{flaws}
use Rattle.ac_resolve_signatures.specs.NameFlaws.{place_unless, name_flaws}
use Rattle.ac_resolve_signatures.specs.SigFlaws.{abbrev_flaws, flaws_in, list_flaws, past_abbrev, spec_members, sig_flaws}

-- what is known behind an item of a struct
abbrev pub past_field : KnownScope → FieldTree → KnownScope
past_field K (AbbrevField a) = past_abbrev K a
past_field K (ValField name ty body) = with_named_field name.word K

-- what is wrong with it
abbrev pub field_flaws : KnownScope → FieldTree → Flaws
field_flaws K (AbbrevField a) = abbrev_flaws K a
field_flaws K (ValField name ty body) = flaws_joined (type_flaws K ty) (flaws K [] body)

-- the type of a likespec
abbrev pub abbrev_name : AbbrevTree → NameAt
abbrev_name a = a.name

module _ (outer : Bytes → Option Members) where
  abbrev pub struct_flaws : List FieldTree → Flaws
  struct_flaws fields = flaws_joined (flaws_joined (list_flaws (flat_map field_type_name fields)) (list_flaws (flat_map field_value_name fields))) (flaws_in past_field field_flaws (known_outside outer) fields)

  abbrev pub like_flaws : List AbbrevTree → Flaws
  like_flaws like = flaws_joined (list_flaws (map abbrev_name like)) (flaws_in past_abbrev abbrev_flaws (known_outside outer) like)

  abbrev pub wants_flaws : WantsTree → Flaws
  wants_flaws (WantsVersion constraint) = no_flaws
  wants_flaws (WantsName name) = missing (place_unless (is_some (outer name.word)) name.at)

  abbrev pub demand_flaws : NameAt → WantsTree → List Resolve → Flaws
  demand_flaws name wants by = flaws_joined (name_flaws name) (flaws_joined (wants_flaws wants) (counts (many_atoms by)))

  -- of a definition
  abbrev pub def_flaws : DefTree → Flaws
  def_flaws (ModuleDef at name σ version fields) = flaws_joined (name_flaws name) (flaws_joined (sig_flaws outer σ.specs) (struct_flaws fields))
  def_flaws (ImportDef at name σ wants like by) = flaws_joined (demand_flaws name wants by) (flaws_joined (sig_flaws outer σ.specs) (like_flaws (unwrap_or like [])))
  def_flaws (MarkDef at text_at text) = no_flaws

  -- the definitions that are called by a name, behind one more
  abbrev pub past_def : DefTree → Bytes → Option Members
  past_def (ModuleDef at name σ version fields) = updated name.word (spec_members (known_outside outer) σ.specs) outer
  past_def (ImportDef at name σ wants like by) = updated name.word (spec_members (known_outside outer) σ.specs) outer
  past_def (MarkDef at text_at text) = outer
