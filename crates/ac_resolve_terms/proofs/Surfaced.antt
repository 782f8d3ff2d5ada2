-- What a surface without faults gives each of its parts.
use Rattle.std.proofs.Common.{◌≡◌, ◌∙◌, ap, sym, refl, arith, ℕ, suc, ◌+◌, ◌^◌, ◌<◌, ◌≤◌, List, [], ◌∷◌, length, Option, Some, None}
use Rattle.std.specs.Prelude.{option_map, option_and_then}
use Rattle.std.proofs.lemmas.Bool.Decides.{nat_tests}
use Rattle.std.proofs.lemmas.List.{length-append}
use Rattle.sha2.specs.Sha256.{sha256}
use Rattle.ac_types.specs.Partial.{first_some}
use Rattle.ac_terms.specs.Defs.{Environment, Def, Entry}
use Rattle.ac_syntax.specs.Trees.{Tree, FieldTree, DefTree, ModuleDef, ImportDef, MarkDef, ProgramTree}
use Rattle.ac_resolve_scopes.specs.Scopes.{NameScope, with_entry, each_in}
use Rattle.ac_resolve_scopes.specs.Definitions.{after_field, item_type, item_field, def_in, after_def}
use Rattle.ac_resolve_scopes.specs.Searches.{found, found_in_field, least_in}
use Rattle.ac_resolve_scopes.specs.Unbound.{unbound_demand, unbound_in_def}
use Rattle.ac_resolve_scopes.specs.Counts.{over, large, large_in_def}
use Rattle.ac_resolve_scopes.specs.Surfaces.{SurfaceFault, Unbound, Repeated, TooMany, first_scope, last_scope, first_unbound, first_repeated, least_passed, surface_entries, surface_fault}
use Rattle.ac_resolve_names.specs.Entries.{own_entry}
use Rattle.ac_resolve_scopes.proofs.AddedEntries.{front_entries, entries_in, entries_behind}
use Rattle.ac_resolve_terms.specs.inner.Crowd.{crowd}
use Rattle.ac_resolve_terms.specs.inner.Bounds.{FieldsFit, DefFits}
use Rattle.ac_resolve_terms.proofs.Crowds.{uncrowded, fields_uncrowded}
use Rattle.ac_resolve_terms.proofs.Within.{none_left, none_right}

pub within_limit : (limit n : ℕ) → over limit n ≡ None → n ≤ limit
within_limit limit n e = grind (arith, nat_tests)

-- of a definition
pub demand_bound : (S : NameScope) (d : DefTree) → unbound_in_def S d ≡ None → unbound_demand S d ≡ None
demand_bound S d h = none_left (unbound_demand S d) _ h

fields_fit : (S : NameScope) (fields : List FieldTree) → over 1024 (length (each_in after_field item_field S fields)) ≡ None → least_in after_field (found_in_field large) S fields ≡ None → FieldsFit S fields
fields_fit S fields n h = record { crowd = fields_uncrowded S fields h; few = within_limit 1024 _ n }

pub def_fits : (S : NameScope) (d : DefTree) → large_in_def S d ≡ None → DefFits S d
def_fits S (ModuleDef at name σ version fields) h =
    fields_fit S fields
    (none_right (over 1024 (length (each_in after_field item_type S fields))) _ (none_right _ _ (none_left _ _ h)))
    (none_right _ _ (none_right _ _ h))
def_fits S (ImportDef at name σ wants like by) h = tt
def_fits S (MarkDef at text_at text) h = tt

-- the scope behind an entry that was made
pub behind_def : (S T : NameScope) (t : DefTree) (d : Def) → d ≡ def_in S t → T ≡ with_entry S (own_entry S.entries d) → T ≡ after_def sha256 S t
behind_def S T t d made e = e ∙ ap (λ x. with_entry S (own_entry S.entries x)) made

pub counted_more : (S T : NameScope) (e : Entry) (n i : ℕ) → T ≡ with_entry S e → length S.entries ≡ n + i → length T.entries ≡ n + (i + 1)
counted_more S T e n i t h =
    let l : length T.entries ≡ length S.entries + 1 = ap (λ (U : NameScope). length U.entries) t ∙ length-append S.entries (e ∷ []) in
    omega arith

entries_counted : (S : NameScope) (ds : List DefTree) → length (entries_in sha256 S ds) ≡ length ds
entries_counted S [] = refl
entries_counted S (d ∷ ds) = ap suc (entries_counted (after_def sha256 S d) ds)

-- of a surface
abbrev faults : Option ℕ → Option ℕ → Option ℕ → Option SurfaceFault
faults a b c = first_some (option_map Unbound a ∷ option_map Repeated b ∷ option_map TooMany c ∷ [])

no_first : (a b c : Option ℕ) → faults a b c ≡ None → a ≡ None
no_first None b c h = refl
no_first (Some x) b c h = absurd (cc)

no_last : (a b c : Option ℕ) → faults a b c ≡ None → c ≡ None
no_last None None None h = refl
no_last None None (Some x) h = absurd (cc)
no_last None (Some x) c h = absurd (cc)
no_last (Some x) b c h = absurd (cc)

module _ (E : Environment) (p : ProgramTree) (h : surface_fault sha256 E p ≡ None) where
  all_bound : first_unbound sha256 E p ≡ None
  all_bound = no_first (first_unbound sha256 E p) (first_repeated sha256 E p) (least_passed sha256 E p) h

  all_within : least_passed sha256 E p ≡ None
  all_within = no_last (first_unbound sha256 E p) (first_repeated sha256 E p) (least_passed sha256 E p) h

  pub defs_bound : least_in (after_def sha256) unbound_in_def (first_scope E p.expr) p.defs ≡ None
  defs_bound = none_left _ _ all_bound

  pub defs_within : least_in (after_def sha256) large_in_def (first_scope E p.expr) p.defs ≡ None
  defs_within = none_left _ _ (none_right (over 4096 (length p.defs)) _ all_within)

  pub few_defs : length p.defs ≤ 4096
  few_defs = within_limit 4096 (length p.defs) (none_left (over 4096 (length p.defs)) _ all_within)

  pub few_ahead : (S : NameScope) (n : ℕ) → S ≡ first_scope E p.expr → n ≡ length p.defs → length E + 4096 < 2 ^ 32 → length S.entries + n < 2 ^ 32
  few_ahead S n s e h =
      let l : length S.entries ≡ length E = ap (λ (U : NameScope). length U.entries) s ∙ ap length (front_entries E p.expr) in
      let m = few_defs in
      omega arith

  pub few_entries : (F : Environment) → F ≡ surface_entries sha256 E p → length F ≤ length E + 4096
  few_entries F e =
      let l : length F ≡ length E + length (entries_in sha256 (first_scope E p.expr) p.defs) = ap length (e ∙ entries_behind sha256 E p) ∙ length-append E (entries_in sha256 (first_scope E p.expr) p.defs) in
      let k = entries_counted (first_scope E p.expr) p.defs in
      let m = few_defs in
      omega arith

  pub main_within : option_and_then (found large (last_scope sha256 E p)) p.expr ≡ None
  main_within = none_right _ _ (none_right (over 4096 (length p.defs)) _ all_within)

-- of an expression, in the scope at its front
pub main_uncrowded : (S T : NameScope) (o : Option Tree) (e : Tree) → T ≡ S → o ≡ Some e → option_and_then (found large S) o ≡ None → found crowd T e ≡ None
main_uncrowded S T o e t is h = uncrowded T e (ap (λ U. found large U e) t ∙ sym (ap (option_and_then (found large S)) is) ∙ h)
