-- A surface adds one entry for each definition behind those in front.
use Rattle.std.proofs.Common.{◌≡◌, ◌∙◌, ap, refl, sym, subst, suc, List, [], ◌∷◌, ◌++◌, length, Option, Some, None, append_assoc, append-nil}
use Rattle.std.specs.Prelude.{IsTrue}
use Rattle.std.specs.Option.{option_map_or}
use Rattle.ac_types.specs.Types.{Bytes}
use Rattle.ac_terms.specs.Terms.{Unit'}
use Rattle.ac_terms.specs.Defs.{Environment, Entry}
use Rattle.ac_terms.specs.Parts.{term_parts}
use Rattle.ac_syntax.specs.Trees.{Tree, DefTree, ProgramTree}
use Rattle.ac_resolve_scopes.specs.Scopes.{NameScope, scope_behind, with_entry, after_all}
use Rattle.ac_resolve_scopes.specs.Written.{term_in}
use Rattle.ac_resolve_scopes.specs.Definitions.{entry_in, after_def}
use Rattle.ac_resolve_scopes.specs.Surfaces.{first_scope, last_scope, surface_entries, surface_main}
use Rattle.ac_resolve_scopes.specs.Added.{refer_into, AreAdded}
use Rattle.ac_resolve_scopes.proofs.References.{term_into, def_into}

-- all scopes stand behind the same entries, whether these are seen or not
seen_entries : (S : NameScope) (es : Environment) → (after_all with_entry S es).entries ≡ S.entries ++ es
seen_entries S [] = sym (append-nil S.entries)
seen_entries S (e ∷ es) = seen_entries (with_entry S e) es ∙ append_assoc S.entries (e ∷ []) es

pub front_entries : (E : Environment) (e : Option Tree) → (first_scope E e).entries ≡ E
front_entries E None = seen_entries (scope_behind []) E
front_entries E (Some e) = refl

module _ (digest : Bytes → Bytes) where
  -- the entries of some definitions
  abbrev pub entries_in : NameScope → List DefTree → List Entry
  entries_in S [] = []
  entries_in S (d ∷ ds) = entry_in digest S d ∷ entries_in (after_def digest S d) ds

  entries_added : (S : NameScope) (ds : List DefTree) → (after_all (after_def digest) S ds).entries ≡ S.entries ++ entries_in S ds
  entries_added S [] = sym (append-nil S.entries)
  entries_added S (d ∷ ds) = entries_added (after_def digest S d) ds ∙ append_assoc S.entries (entry_in digest S d ∷ []) (entries_in (after_def digest S d) ds)

  pub entries_behind : (E : Environment) (p : ProgramTree) → surface_entries digest E p ≡ E ++ entries_in (first_scope E p.expr) p.defs
  entries_behind E p = entries_added (first_scope E p.expr) p.defs ∙ ap (λ (es : Environment). es ++ entries_in (first_scope E p.expr) p.defs) (front_entries E p.expr)

  entries_counted : (S : NameScope) (ds : List DefTree) → length (entries_in S ds) ≡ length ds
  entries_counted S [] = refl
  entries_counted S (d ∷ ds) = ap suc (entries_counted (after_def digest S d) ds)

  each_added : (S : NameScope) (ds : List DefTree) → AreAdded digest S.entries (entries_in S ds)
  each_added S [] = tt
  each_added S (d ∷ ds) = (record { own = refl; unlinked = refl; named = refl; refers = def_into S d }, each_added (after_def digest S d) ds)

  pub adds_entries : (E : Environment) (p : ProgramTree) → (added : List Entry) × (surface_entries digest E p ≡ E ++ added) × (length added ≡ length p.defs) × AreAdded digest E added
  adds_entries E p =
      let S = first_scope E p.expr in
      (entries_in S p.defs, entries_behind E p, entries_counted S p.defs, subst (λ (es : Environment). AreAdded digest es (entries_in S p.defs)) (front_entries E p.expr) (each_added S p.defs))

  pub term_refers : (E : Environment) (p : ProgramTree) → IsTrue (refer_into (surface_entries digest E p) (term_parts (surface_main digest E p)))
  term_refers E p = on (last_scope digest E p) p.expr where
    on : (S : NameScope) (e : Option Tree) → IsTrue (refer_into S.entries (term_parts (option_map_or (term_in S) e Unit')))
    on S None = refl
    on S (Some e) = term_into S e
