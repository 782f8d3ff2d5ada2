-- The lists of the definitions of entries are within their limits: of coherent ones, and of those that a surface adds.
use Rattle.std.proofs.Common.{◌≡◌, refl, sym, subst, ℕ, suc, true, List, [], ◌∷◌, ◌++◌, length, Some, None}
use Rattle.std.specs.Prelude.{nat_le}
use Rattle.std.specs.List.{list_all}
use Rattle.std.proofs.lemmas.Bool.{le-leb}
use Rattle.ac_types.specs.Limits.{most_definitions, most_items}
use Rattle.ac_types.proofs.Same.{both_true, and_true}
use Rattle.ac_types.specs.Types.{Bytes}
use Rattle.ac_types.specs.Sigs.{Signature}
use Rattle.ac_terms.specs.Defs.{Environment, Entry, Def, AModule, AnImport, AMark, Seen, def_of}
use Rattle.ac_terms.specs.Bounds.{fits_sig, fits_def}
use Rattle.ac_terms.proofs.AllLaws.{all_append}
use Rattle.ac_rules.specs.Coherent.{IsCoherent}
use Rattle.ac_syntax.specs.Trees.{SigTree, DefTree, ModuleDef, ImportDef, MarkDef, ProgramTree}
use Rattle.ac_resolve_scopes.specs.Scopes.{NameScope, each_in}
use Rattle.ac_resolve_scopes.specs.Definitions.{signature_in, def_in, after_def, after_field, item_type, item_field}
use Rattle.ac_resolve_scopes.specs.Searches.{least_in}
use Rattle.ac_resolve_scopes.specs.Counts.{over, many_in_sig, many_in_struct, many_in_lists, large_in_def}
use Rattle.ac_resolve_scopes.specs.Surfaces.{first_scope, surface_entries, surface_fault}
use Rattle.ac_resolve_scopes.proofs.AddedEntries.{entries_in, entries_behind}
use Rattle.ac_load_rules.specs.Causes.{linked_entry, linked_behind}
use Rattle.ac_load_rules.specs.Counted.{is_counted_sig, is_counted, has_counted}
use Rattle.ac_load_rules.proofs.Distinct.{least_none}
use Rattle.ac_load_rules.proofs.FineTypes.{within}
use Rattle.ac_load_rules.proofs.PartLaws.{scoped}

-- of coherent entries
sig_fits : (s : Signature) → fits_sig s ≡ true → is_counted_sig s ≡ true
sig_fits s h = (both_true (is_counted_sig s) _ (both_true _ _ h).0).0

def_fits : (d : Def) → fits_def d ≡ true → is_counted d ≡ true
def_fits (AModule m) h =
    let a = both_true _ _ h in
    let b = both_true _ (nat_le (length m.fields) 1024) a.0 in
    let c = both_true _ _ b.0 in
    let d = both_true _ (nat_le (length m.types) 1024) c.0 in
    let e = both_true _ (fits_sig m.sig) d.0 in
    and_true (sig_fits m.sig e.1) b.1
def_fits (AnImport i) h =
    let a = both_true _ _ h in
    let b = both_true _ _ a.0 in
    let c = both_true _ _ b.0 in
    let d = both_true _ _ c.0 in
    let e = both_true _ (nat_le (length i.like) 1024) d.0 in
    let f = both_true _ _ e.0 in
    let g = both_true _ (fits_sig i.sig) f.0 in
    sig_fits i.sig g.1
def_fits (AMark t) h = refl

each_counted : (E : Environment) → ((i : ℕ) (d : Def) → def_of E i ≡ Some d → fits_def d ≡ true) → list_all has_counted E ≡ true
each_counted [] h = refl
each_counted (e ∷ E) h = and_true (def_fits e.def (h 0 e.def refl)) (each_counted E (λ i d is. h (suc i) d is))

pub coherent_counted : (E : Environment) → IsCoherent E → list_all has_counted E ≡ true
coherent_counted E c = each_counted E c.within_bounds

-- of what a surface adds
sig_counted : (S : NameScope) (σ : SigTree) → many_in_sig S σ ≡ None → is_counted_sig (signature_in S σ) ≡ true
sig_counted S σ h =
    let g = signature_in S σ in
    let c = least_none (over most_items (length g.types)) (over most_items (length g.vals)) h in
    and_true (le-leb (length g.types) 1024 (within most_items (length g.types) c.0)) (le-leb (length g.vals) 1024 (within most_items (length g.vals) c.1))

def_counted : (S : NameScope) (d : DefTree) → large_in_def S d ≡ None → is_counted (def_in S d) ≡ true
def_counted S (ModuleDef at name σ version fields) h =
    let l = least_none (many_in_lists S (ModuleDef at name σ version fields)) _ h in
    let m = least_none (many_in_sig S σ) (many_in_struct S fields) l.0 in
    let n = length (each_in after_field item_field S fields) in
    let c = least_none (over most_items (length (each_in after_field item_type S fields))) (over most_items n) m.1 in
    and_true (sig_counted S σ m.0) (le-leb n 1024 (within most_items n c.1))
def_counted S (ImportDef at name σ wants like by) h =
    let l = least_none (many_in_lists S (ImportDef at name σ wants like by)) _ h in
    sig_counted S σ (least_none (many_in_sig S σ) _ l.0).0
def_counted S (MarkDef at text_at text) h = refl

module _ (digest : Bytes → Bytes) where
  all_counted : (S : NameScope) (ds : List DefTree) → least_in (after_def digest) large_in_def S ds ≡ None → list_all has_counted (entries_in digest S ds) ≡ true
  all_counted S [] h = refl
  all_counted S (d ∷ ds) h =
      let l = least_none (large_in_def S d) _ h in
      and_true (def_counted S d l.0) (all_counted (after_def digest S d) ds l.1)

  pub surface_counted : (E : Environment) (seen : Seen) (p : ProgramTree) → list_all has_counted E ≡ true → surface_fault digest E p ≡ None → list_all has_counted (surface_entries digest E p) ≡ true
  surface_counted E seen p h sound =
      let counts = least_none (over most_definitions (length p.defs)) _ (scoped digest E seen p sound).within in
      let large = least_none (least_in (after_def digest) large_in_def (first_scope E p.expr) p.defs) _ counts.1 in
      subst (λ (F : Environment). list_all has_counted F ≡ true) (sym (entries_behind digest E p)) (all_append has_counted E _ h (all_counted (first_scope E p.expr) p.defs large.0))

-- a link changes no definition
pub linked_counted : (seen : Seen) (E : Environment) (es : List Entry) → list_all has_counted es ≡ true → list_all has_counted (linked_behind seen E es) ≡ true
linked_counted seen E [] h = refl
linked_counted seen E (e ∷ es) h =
    let b = both_true (has_counted e) _ h in
    and_true b.0 (linked_counted seen (E ++ linked_entry seen E e ∷ []) es b.1)
