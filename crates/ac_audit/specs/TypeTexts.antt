-- The type that a text is behind a program's last definition, or why it is none.
use Rattle.std.specs.Prelude.{◌≡◌, ℕ, List, [], ◌∷◌, length, filter, Option, Some, None, option_map}
use Rattle.ac_types.specs.Partial.{first_some}
use Rattle.ac_types.specs.Types.{Bytes, Typ}
use Rattle.ac_terms.specs.Defs.{Environment, Entry}
use Rattle.ac_rules.specs.Links.{is_own}
use Rattle.ac_lexer.specs.declared.tokens.Token.{Token}
use Rattle.ac_syntax.specs.Signs.{signs}
use Rattle.ac_syntax.specs.Trees.{TypeTree}
use Rattle.ac_syntax.specs.TypeForms.{IsType}
use Rattle.ac_syntax.specs.declared.fault.ParseFault.{ParseFault}
use Rattle.ac_syntax.specs.declared.fault.ParseFault.TheVariants as fault
use Rattle.ac_syntax.specs.Texts.{IsRead, IsPlace, UnreadText}
use Rattle.ac_resolve_scopes.specs.Scopes.{NameScope, scope_behind, with_entry, after_all}
use Rattle.ac_resolve_scopes.specs.Written.{type_in}
use Rattle.ac_resolve_scopes.specs.Unbound.{unbound_type}
use Rattle.ac_resolve_scopes.specs.Counts.{large_type}
use Rattle.ac_resolve_scopes.specs.Surfaces.{SurfaceFault, Unbound, TooMany}
use Rattle.ac_load.specs.Kinds.{parse_kind, scope_kind}
use Rattle.ac_load.specs.declared.kind.Kind.{Kind}

-- the own entries of an environment, by themselves
abbrev pub own_entries : Environment → Environment
own_entries E = filter (λ (e : Entry). is_own e.seen) E

-- the scope behind the last of them: each is called by its external name, of two with one name the later
abbrev pub own_scope : Environment → NameScope
own_scope E = after_all with_entry (scope_behind []) (own_entries E)

-- why a type is refused in a scope: a name that isn't there, or a count past its limit
abbrev pub type_fault : NameScope → TypeTree → Option SurfaceFault
type_fault S t = first_some (option_map Unbound (unbound_type S t) ∷ option_map TooMany (large_type S t) ∷ [])

-- the text has this tree as a type, and nothing stands behind it
pub record HasTypeTree (text : Bytes) (tree : TypeTree) : Type 0 where
  pub tokens : List Token
  pub read : IsRead text tokens
  pub is : IsType (signs tokens) tree []

-- the text is a type behind the own entries, and means this
pub record IsTypeText (E : Environment) (text : Bytes) (T : Typ) : Type 0 where
  pub tree : TypeTree
  pub has : HasTypeTree text tree
  pub sound : type_fault (own_scope E) tree ≡ None
  pub means : T ≡ type_in (own_scope E) tree

-- the text has no tree as a type: it isn't read, or its signs are none
pub data RefusedTree (text : Bytes) : ParseFault → Type 0 where
  unread_type : {e : ParseFault} → UnreadText text e → RefusedTree text e
  no_type : {at : ℕ} {tokens : List Token} → IsRead text tokens → ((tree : TypeTree) → IsType (signs tokens) tree [] → ⊥) → IsPlace tokens (length text) at → RefusedTree text (fault.Syntax at)

-- the text is no type, for the first kind of cause that applies
pub data RefusesType (E : Environment) (text : Bytes) : Kind → Type 0 where
  no_tree : {e : ParseFault} → RefusedTree text e → RefusesType E text (parse_kind e)
  bad_names : {f : SurfaceFault} {tree : TypeTree} → HasTypeTree text tree → type_fault (own_scope E) tree ≡ Some f → RefusesType E text (scope_kind f)
