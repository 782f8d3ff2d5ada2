-- What a surface, a program or a module by itself, elaborates to behind the entries in front of it, and why it is refused.
use Rattle.std.specs.Prelude.{◌≡◌, ℕ, [], ◌∷◌, length, Option, Some, None, option_map, option_and_then}
use Rattle.std.specs.Option.{option_map_or}
use Rattle.ac_types.specs.Limits.{most_definitions}
use Rattle.ac_types.specs.Partial.{first_some}
use Rattle.ac_types.specs.Types.{Bytes}
use Rattle.ac_terms.specs.Terms.{Expr, Unit'}
use Rattle.ac_terms.specs.Defs.{Environment}
use Rattle.ac_syntax.specs.Trees.{Tree, ProgramTree}
use Rattle.ac_resolve_scopes.specs.Scopes.{NameScope, scope_behind, with_entry, after_all}
use Rattle.ac_resolve_scopes.specs.Written.{term_in}
use Rattle.ac_resolve_scopes.specs.Definitions.{after_def}
use Rattle.ac_resolve_scopes.specs.Searches.{least, least_in, found}
use Rattle.ac_resolve_scopes.specs.Unbound.{unbound, unbound_in_def}
use Rattle.ac_resolve_scopes.specs.Repeated.{repeated, repeated_in_def, twice, mark_name}
use Rattle.ac_resolve_scopes.specs.Counts.{over, large, large_in_def}

-- the scope at the front of a surface: a module by itself sees the entries in front of it by their external names, a program doesn't
abbrev pub first_scope : Environment → Option Tree → NameScope
first_scope E None = after_all with_entry (scope_behind []) E
first_scope E (Some e) = scope_behind E

-- why a surface is refused: a name that isn't in scope, a repetition, a count past its limit
pub data SurfaceFault : Type 0 where
  Unbound : (at : ℕ) → SurfaceFault
  Repeated : (at : ℕ) → SurfaceFault
  TooMany : (count : ℕ) → SurfaceFault

module _ (digest : Bytes → Bytes) (E : Environment) (p : ProgramTree) where
  -- the scope of the expression, behind all definitions
  abbrev pub last_scope : NameScope
  last_scope = after_all (after_def digest) (first_scope E p.expr) p.defs

  -- the entries in front and one for each definition, and the term of the expression, `()` where there is none
  abbrev pub surface_entries : Environment
  surface_entries = last_scope.entries

  abbrev pub surface_main : Expr
  surface_main = option_map_or (term_in last_scope) p.expr Unit'

  -- the first name that isn't in scope
  abbrev pub first_unbound : Option ℕ
  first_unbound = least (least_in (after_def digest) unbound_in_def (first_scope E p.expr) p.defs) (option_and_then (found unbound last_scope) p.expr)

  -- the first repetition
  abbrev pub first_repeated : Option ℕ
  first_repeated =
      least (twice mark_name p.defs) (least (least_in (after_def digest) repeated_in_def (first_scope E p.expr) p.defs) (option_and_then (found repeated last_scope) p.expr))

  -- one more than the least limit that a count passes
  abbrev pub least_passed : Option ℕ
  least_passed =
      least (over most_definitions (length p.defs))
      (least (least_in (after_def digest) large_in_def (first_scope E p.expr) p.defs) (option_and_then (found large last_scope) p.expr))

  -- the first of these that applies
  abbrev pub surface_fault : Option SurfaceFault
  surface_fault = first_some (option_map Unbound first_unbound ∷ option_map Repeated first_repeated ∷ option_map TooMany least_passed ∷ [])

  -- the surface has these entries and this term: each name is in scope, nothing is repeated, and no count passes its limit
  pub record Elaborates (F : Environment) (main : Expr) : Type 0 where
    pub sound : surface_fault ≡ None
    pub entries : F ≡ surface_entries
    pub is : main ≡ surface_main
