-- What is wrong with a surface by what is known is what is wrong with it.
use Rattle.std.proofs.Common.{◌≡◌, ◌∙◌, ap, refl, sym, subst, List, [], ◌∷◌, Option, Some, None}
use Rattle.std.specs.Prelude.{option_and_then}
use Rattle.ac_types.specs.Types.{Bytes}
use Rattle.ac_terms.specs.Defs.{Environment}
use Rattle.ac_syntax.specs.Trees.{Tree, DefTree, ProgramTree}
use Rattle.ac_resolve_scopes.specs.Scopes.{NameScope, scope_behind, after_all}
use Rattle.ac_resolve_scopes.specs.Definitions.{entry_in, after_def}
use Rattle.ac_resolve_scopes.specs.Searches.{least_in, found}
use Rattle.ac_resolve_scopes.specs.Unbound.{unbound, unbound_in_def}
use Rattle.ac_resolve_scopes.specs.Repeated.{repeated, repeated_in_def}
use Rattle.ac_resolve_scopes.specs.Counts.{large, large_in_def}
use Rattle.ac_resolve_scopes.specs.Surfaces.{first_scope, surface_fault}
use Rattle.ac_resolve_signatures.specs.declared.flaws.Flaws.{Flaws}
use Rattle.ac_resolve_signatures.specs.Joined.{flaws_joined}
use Rattle.ac_resolve_signatures.specs.KnownScopes.{Members, known_outside}
use Rattle.ac_resolve_faults.specs.inner.DefFlaws.{past_def}
use Rattle.ac_resolve_signatures.specs.EntriesInFront.{no_outer}
use Rattle.ac_resolve_faults.specs.inner.SurfaceFlaws.{first_outer, main_flaws, rest_flaws, defs_flaws, surface_flaws, first_fault}
use Rattle.ac_resolve_signatures.proofs.Leasts.{three, joined-assoc, both_joined}
use Rattle.ac_resolve_signatures.proofs.Knowing.{KnowsOuter, AtStart, known_at_start, knows_entry, starts, knows_entries, starts_behind, knows_none, starts_alone}
use Rattle.ac_resolve_faults.proofs.DefsAre.{body-is, past_def-is, def-is}

knows_front : (E : Environment) (e : Option Tree) → KnowsOuter (first_outer E e) (first_scope E e)
knows_front E None = knows_entries no_outer (scope_behind []) E (knows_none [])
knows_front E (Some e) = knows_none E

starts_front : (E : Environment) (e : Option Tree) → AtStart (first_scope E e)
starts_front E None = starts_behind (scope_behind []) E (starts_alone [])
starts_front E (Some e) = starts_alone E

-- of the expression
abbrev main_faults : NameScope → Option Tree → Flaws
main_faults S e = three (option_and_then (found unbound S) e) (option_and_then (found repeated S) e) (option_and_then (found large S) e)

main-is : (outer : Bytes → Option Members) (S : NameScope) (e : Option Tree) → KnowsOuter outer S → AtStart S → main_flaws outer e ≡ main_faults S e
main-is outer S None k s = refl
main-is outer S (Some e) k s = body-is (known_outside outer) S (known_at_start outer S k s) s.variables e

module _ (digest : Bytes → Bytes) where
  -- of the definitions
  abbrev def_faults : NameScope → List DefTree → Flaws
  def_faults S ds = three (least_in (after_def digest) unbound_in_def S ds) (least_in (after_def digest) repeated_in_def S ds) (least_in (after_def digest) large_in_def S ds)

  knows_def : (outer : Bytes → Option Members) (S : NameScope) (d : DefTree) → KnowsOuter outer S → AtStart S → KnowsOuter (past_def outer d) (after_def digest S d)
  knows_def outer S d k s =
      subst (λ (o : Bytes → Option Members). KnowsOuter o (after_def digest S d)) (sym (past_def-is outer S d (known_at_start outer S k s))) (knows_entry outer S (entry_in digest S d) k)

  rest-is : (outer : Bytes → Option Members) (S : NameScope) (ds : List DefTree) (e : Option Tree) → KnowsOuter outer S → AtStart S
      → rest_flaws outer ds e ≡ flaws_joined (def_faults S ds) (main_faults (after_all (after_def digest) S ds) e)
  rest-is outer S [] e k s = main-is outer S e k s
  rest-is outer S (d ∷ ds) e k s =
      let T = after_def digest S d in
      both_joined _ _ _ _ (def-is outer S k s d) (rest-is (past_def outer d) T ds e (knows_def outer S d k s) (starts S (entry_in digest S d)))
      ∙ sym (joined-assoc (three (unbound_in_def S d) (repeated_in_def S d) (large_in_def S d)) (def_faults T ds) (main_faults (after_all (after_def digest) T ds) e))

  pub surface-is : (E : Environment) (p : ProgramTree) → first_fault (surface_flaws E p) ≡ surface_fault digest E p
  surface-is E p =
      ap (λ f. first_fault (flaws_joined (defs_flaws p.defs) f)) (rest-is (first_outer E p.expr) (first_scope E p.expr) p.defs p.expr (knows_front E p.expr) (starts_front E p.expr))
