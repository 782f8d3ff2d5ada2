-- What is asked of the fields of structs: few enough are in scope to be numbered, and few enough variables.
use Rattle.std.specs.Prelude.{◌≡◌, ◌≤◌, List, length, None}
use Rattle.ac_types.specs.Limits.{most_items}
use Rattle.ac_syntax.specs.Trees.{FieldTree, DefTree, ModuleDef, ImportDef, MarkDef}
use Rattle.ac_resolve_scopes.specs.Scopes.{NameScope, each_in}
use Rattle.ac_resolve_scopes.specs.Definitions.{after_field, item_field}
use Rattle.ac_resolve_scopes.specs.Searches.{found_in_field, least_in}
use Rattle.ac_resolve_terms.specs.inner.Crowd.{crowd}

pub record FieldsFit (S : NameScope) (fields : List FieldTree) : Type 0 where
  pub crowd : least_in after_field (found_in_field crowd) S fields ≡ None
  pub few : length (each_in after_field item_field S fields) ≤ most_items

abbrev pub DefFits : NameScope → DefTree → Type 0
DefFits S (ModuleDef at name sig version fields) = FieldsFit S fields
DefFits S (ImportDef at name sig wants like by) = Unit {0}
DefFits S (MarkDef at text_at text) = Unit {0}
