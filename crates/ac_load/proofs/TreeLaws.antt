-- What one tree adds to the entries in front of it, from the answers of the layers.
use Rattle.std.proofs.Common.{◌≡◌, ◌∙◌, ◌≤◌, refl, sym, ap, ap₂, subst, ℕ, suc, true, List, [], ◌∷◌, ◌++◌, length, take, drop, Option, Some, None, arith, length-append}
use Rattle.std.specs.Prelude.{is_none, option_map}
use Rattle.std.specs.List.{list_all}
use Rattle.std.specs.Option.{option_or}
use Rattle.std.proofs.Math.Seq.{take-append_seam, drop-append_seam}
use Rattle.std.proofs.lemmas.List.{take-append-drop}
use Rattle.sha2.specs.Sha256.{sha256}
use Rattle.ac_types.specs.Partial.{given, first_some}
use Rattle.ac_types.specs.Types.{Typ}
use Rattle.ac_terms.specs.Terms.{Expr}
use Rattle.ac_terms.specs.Defs.{Environment, Entry, Seen}
use Rattle.ac_syntax.specs.Trees.{ProgramTree}
use Rattle.ac_resolve_scopes.specs.Surfaces.{SurfaceFault, Elaborates, first_scope, surface_fault}
use Rattle.ac_resolve_scopes.specs.Surfaces as surface
use Rattle.ac_resolve_scopes.proofs.AddedEntries.{entries_in, entries_behind}
use Rattle.ac_resolve.specs.ScopeFaults.{RefusesScopes}
use Rattle.ac_resolve.specs.declared.fault.ScopeFault.{ScopeFault}
use Rattle.ac_resolve.specs.declared.fault.ScopeFault.TheVariants as scope
use Rattle.ac_load_rules.specs.Causes.{Cause, BadScopes, IllTyped, linked_entry, linked_behind, first_at, ill_typed, uncovering, not_valuable, without_likespec, unlinked, first_entry_clash, added, loaded, main_type, refusal_cause}
use Rattle.ac_load_rules.specs.Counted.{has_counted}
use Rattle.ac_load_rules.proofs.Counted.{surface_counted, linked_counted}
use Rattle.ac_terms.proofs.AllLaws.{all_append, all_left, all_right}
use Rattle.ac_load_causes.specs.PartCauses.{term_type, part_cause, Tells}
use Rattle.ac_load_causes.specs.declared.fault.PartFault.{PartFault}
use Rattle.ac_load_causes.specs.declared.fault.PartFault.TheVariants as part
use Rattle.ac_load.specs.Kinds.{of_cause, fault_kind, part_kind, Says}
use Rattle.ac_load.specs.inner.Parts.{linked_part, IsTaken, IsTreeRefused}

linked_long : (seen : Seen) (E : Environment) (es : List Entry) → length (linked_behind seen E es) ≡ length es
linked_long seen E [] = refl
linked_long seen E (e ∷ es) = ap suc (linked_long seen (E ++ linked_entry seen E e ∷ []) es)

-- linking changes neither how many entries there are nor what is counted in them
module _ (seen : Seen) (n : ℕ) (F : Environment) where
  pub linked_length : length (linked_part seen n F) ≡ length F
  linked_length =
      let a = length-append (take n F) (linked_behind seen (take n F) (drop n F)) in
      let b = linked_long seen (take n F) (drop n F) in
      let c = length-append (take n F) (drop n F) in
      let d = ap length (take-append-drop n F) in
      omega (arith, a, b, c, d)

  pub still_counted : list_all has_counted F ≡ true → list_all has_counted (linked_part seen n F) ≡ true
  still_counted h =
      let all : list_all has_counted (take n F ++ drop n F) ≡ true = ap (list_all has_counted) (take-append-drop n F) ∙ h in
      all_append has_counted (take n F) (linked_behind seen (take n F) (drop n F)) (all_left has_counted (take n F) (drop n F) all)
      (linked_counted seen (take n F) (drop n F) (all_right has_counted (take n F) (drop n F) all))

module _ (E : Environment) (seen : Seen) (p : ProgramTree) where
  -- the causes behind those of the scopes, where the part adds these entries
  abbrev causes_with : List Entry → Option Cause
  causes_with xs =
      first_some
      (first_at 0 (ill_typed (loaded sha256 E seen p) (length E)) xs ∷
      given (is_none (main_type sha256 E seen p)) (Some (IllTyped (length xs))) ∷
      first_at 0 uncovering xs ∷
      first_at 0 not_valuable xs ∷
      first_at 0 without_likespec xs ∷
      first_at 0 unlinked xs ∷
      first_entry_clash (loaded sha256 E seen p) ∷ [])

  -- a fault of the scopes is the cause
  scopes_first : (f : SurfaceFault) → surface_fault sha256 E p ≡ Some f → refusal_cause sha256 E seen p ≡ Some (BadScopes f)
  scopes_first f h = ap (λ o. option_or (option_map BadScopes o) (causes_with (added sha256 E seen p))) h

  pub scopes_refused : (f : ScopeFault) → RefusesScopes E p f → Says (fault_kind f) (IsTreeRefused E seen p (fault_kind f))
  scopes_refused (scope.Unbound at) h = of_cause {c = BadScopes (surface.Unbound at)} (scopes_first (surface.Unbound at) h)
  scopes_refused (scope.Repeated at) h = of_cause {c = BadScopes (surface.Repeated at)} (scopes_first (surface.Repeated at) h)
  scopes_refused (scope.TooMany count) h = of_cause {c = BadScopes (surface.TooMany count)} (scopes_first (surface.TooMany count) h)
  scopes_refused scope.Memory h = tt

  module _ (F : Environment) (e : Expr) (x : Elaborates sha256 E p F e) where
    behind : F ≡ E ++ entries_in sha256 (first_scope E p.expr) p.defs
    behind = x.entries ∙ entries_behind sha256 E p

    pub front_within : (n : ℕ) → n ≡ length E → n ≤ length F
    front_within n is =
        let a = ap length behind in
        let b = length-append E (entries_in sha256 (first_scope E p.expr) p.defs) in
        omega (arith, a, b, is)

    pub surfaced_counted : list_all has_counted E ≡ true → list_all has_counted F ≡ true
    surfaced_counted h = subst (λ (G : Environment). list_all has_counted G ≡ true) (sym x.entries) (surface_counted sha256 E seen p h x.sound)

    front_is : take (length E) F ≡ E
    front_is = ap (take (length E)) behind ∙ take-append_seam E (entries_in sha256 (first_scope E p.expr) p.defs)

    -- once they are linked
    module _ (n : ℕ) (is : n ≡ length E) (G : Environment) (linked : G ≡ linked_part seen n F) where
      pub entries_are : G ≡ loaded sha256 E seen p
      entries_are =
          linked
          ∙ ap (λ (k : ℕ). linked_part seen k F) is
          ∙ ap (λ (front : Environment). front ++ linked_behind seen front (drop (length E) F)) front_is
          ∙ ap (λ (H : Environment). E ++ linked_behind seen E (drop (length E) H)) x.entries

      -- the causes are those of the entries
      pub cause_is : refusal_cause sha256 E seen p ≡ part_cause G n e
      cause_is =
          ap (λ o. option_or (option_map BadScopes o) (causes_with (added sha256 E seen p))) x.sound
          ∙ ap causes_with (sym (drop-append_seam E (added sha256 E seen p)))
          ∙ ap₂ (λ (k : ℕ) (f : Expr). part_cause (loaded sha256 E seen p) k f) (sym is) (sym x.is)
          ∙ ap (λ (H : Environment). part_cause H n e) (sym entries_are)

      pub taken : (m : Expr) (T : Typ) → m ≡ e → term_type G m ≡ Some T → part_cause G n m ≡ None → IsTaken E seen p G m T
      taken m T same typed none = record {
        sound = cause_is ∙ ap (part_cause G n) (sym same) ∙ none;
        entries = entries_are;
        main = same ∙ x.is;
        typed = ap₂ term_type (sym entries_are) (sym (same ∙ x.is)) ∙ typed;
      }

      pub part_refused : (f : PartFault) → Tells f (part_cause G n e) → Says (part_kind f) (IsTreeRefused E seen p (part_kind f))
      part_refused (part.IllTyped def) h = of_cause (cause_is ∙ h)
      part_refused (part.Signature def spec) h = of_cause (cause_is ∙ h)
      part_refused (part.NotValuable def field) h = of_cause (cause_is ∙ h)
      part_refused (part.LikeMissing def spec) h = of_cause (cause_is ∙ h)
      part_refused (part.Unresolved def) h = of_cause (cause_is ∙ h)
      part_refused (part.Clash first second) h = of_cause (cause_is ∙ h)
      part_refused part.Memory h = tt
