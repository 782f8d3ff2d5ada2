-- What is wrong with a surface behind some entries, by what is known of scopes.
use Rattle.std.specs.Prelude.{List, [], ◌∷◌, length, Option, Some, None, option_map}
use Rattle.std.specs.Option.{option_map_or}
use Rattle.ac_types.specs.Limits.{most_definitions}
use Rattle.ac_types.specs.Partial.{first_some}
use Rattle.ac_types.specs.Types.{Bytes}
use Rattle.ac_terms.specs.Defs.{Environment}
use Rattle.ac_syntax.specs.Trees.{Tree, DefTree, ProgramTree}
use Rattle.ac_resolve_scopes.specs.Repeated.{twice, mark_name}
use Rattle.ac_resolve_scopes.specs.Counts.{over}
use Rattle.ac_resolve_scopes.specs.Surfaces.{SurfaceFault, Unbound, Repeated, TooMany}
use Rattle.ac_resolve_signatures.specs.declared.flaws.Flaws.{Flaws}
use Rattle.ac_resolve_signatures.specs.Joined.{no_flaws, flaws_joined}
use Rattle.ac_resolve_signatures.specs.KnownScopes.{Members, known_outside}
use Rattle.ac_resolve_faults.specs.inner.ExprFlaws.{flaws}
use Rattle.ac_resolve_faults.specs.inner.DefFlaws.{def_flaws, past_def}
use Rattle.ac_resolve_signatures.specs.EntriesInFront.{no_outer, past_entries}

-- at the front of a surface: a program sees no entries
abbrev pub first_outer : Environment → Option Tree → Bytes → Option Members
first_outer E None = past_entries no_outer E
first_outer E (Some e) = no_outer

-- of the definitions that are left, and of the expression behind them
abbrev pub main_flaws : (Bytes → Option Members) → Option Tree → Flaws
main_flaws outer expr = option_map_or (flaws (known_outside outer) []) expr no_flaws

abbrev pub rest_flaws : (Bytes → Option Members) → List DefTree → Option Tree → Flaws
rest_flaws outer [] expr = main_flaws outer expr
rest_flaws outer (d ∷ ds) expr = flaws_joined (def_flaws outer d) (rest_flaws (past_def outer d) ds expr)

-- the marks' names, and how many definitions there are
abbrev pub defs_flaws : List DefTree → Flaws
defs_flaws ds = record { unbound = None; repeated = twice mark_name ds; count = over most_definitions (length ds) }

abbrev pub surface_flaws : Environment → ProgramTree → Flaws
surface_flaws E p = flaws_joined (defs_flaws p.defs) (rest_flaws (first_outer E p.expr) p.defs p.expr)

-- the first of the three kinds that is there
abbrev pub first_fault : Flaws → Option SurfaceFault
first_fault f = first_some (option_map Unbound f.unbound ∷ option_map Repeated f.repeated ∷ option_map TooMany f.count ∷ [])
