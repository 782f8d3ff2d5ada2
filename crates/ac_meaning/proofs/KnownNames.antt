-- In a coherent environment the types of fields and values are of known names, and the fields of a program are typed in both modes.
use Rattle.std.proofs.Common.{◌≡◌, ap, ◌∙◌, subst, ℕ, zero, suc, true, false, List, [], ◌∷◌, Option, Some, None}
use Rattle.std.specs.Prelude.{option_map, option_and_then, slice_get, ◌&&◌}
use Rattle.std.specs.List.{list_all}
use Rattle.ac_types.proofs.Same.{both_true}
use Rattle.ac_types.proofs.FirstLaws.{none≢some, some_eq}
use Rattle.ac_terms.specs.Terms.{Expr, In}
use Rattle.ac_terms.specs.Defs.{Environment, Field, Module, AModule, module_of, def_of}
use Rattle.ac_terms.specs.Bounds.{is_lower, fits_type, fits_term}
use Rattle.ac_rules.specs.Views.{Mode, Coloured, view}
use Rattle.ac_rules.specs.Typing.{of_field}
use Rattle.ac_rules.specs.Coherent.{IsCoherent}
use Rattle.ac_rules.proofs.KnownTypes.{values_known, own_known}
use Rattle.ac_meaning.specs.References.{own_field}
use Rattle.ac_meaning.specs.Laws.{is_source}
use Rattle.ac_meaning.proofs.Sources.{fits_source}
use Rattle.ac_meaning.proofs.Coherences.{is_field, is_sound}
use Rattle.ac_meaning.specs.Typed.{own_type, Typed}
use Rattle.ac_meaning.proofs.Homes.{lower_seen}
use Rattle.ac_meaning.proofs.FromTypes.{KnownTypes, typed_from}
use Rattle.ac_meaning.proofs.Sound.{FieldsTyped}

source_at : (fs : List Field) (f : ℕ) (x : Field) → list_all (λ (y : Field). is_lower y.name && fits_type false y.ty && fits_term false y.term) fs ≡ true → slice_get fs f ≡ Some x → is_source x.term ≡ true
source_at [] f x h e = absurd (none≢some e)
source_at (y ∷ fs) zero x h e = subst (λ (z : Field). is_source z.term ≡ true) (some_eq e) (fits_source y.term (both_true _ _ (both_true (is_lower y.name && fits_type false y.ty && fits_term false y.term) _ h).0).1)
source_at (y ∷ fs) (suc f) x h e = source_at fs f x (both_true (is_lower y.name && fits_type false y.ty && fits_term false y.term) _ h).1 e

module _ (E : Environment) (coherent : IsCoherent E) where
  pub own_there : (m : Module) (j f : ℕ) (x : Field) → def_of E j ≡ Some (AModule m) → slice_get m.fields f ≡ Some x → own_type E (In j) f ≡ Some x.ty
  own_there m j f x d g =
      ap (λ (o : Option Module). option_map (λ (y : Field). y.ty) (slice_get (elim o as (λ z. List Field) [ None ↦ [] | Some n ↦ n.fields ]) f)) (ap (option_and_then module_of) d) ∙ ap (option_map (λ (y : Field). y.ty)) g

  pub known_types : KnownTypes E
  known_types = record { own = own_known E coherent; values = values_known E coherent }

  -- the fields are typed in either mode
  pub fields_typed : (mode : Mode) → FieldsTyped mode E
  fields_typed mode j f e p =
      let x = is_field E coherent j f e p in
      let s = is_sound E coherent j f e x in
      let m : Module = x.module' in
      let source : is_source e ≡ true = subst (λ t. is_source t ≡ true) x.is_term (source_at m.fields f x.field (both_true _ _ (coherent.within_bounds j (AModule m) x.is_module)).1 x.is_there) in
      let A = x.field.ty in
      let own : own_type E (In j) f ≡ Some A = own_there m j f x.field x.is_module x.is_there in
      (A, own, subst (Typed mode E e (In j) []) (lower_seen E coherent mode (In j) A (own_known E coherent (In j) f A own)) (typed_from E coherent known_types mode e (of_field j f) (view Coloured E (In j) A) source s.1))

  -- and they are of the source
  pub fields_source : (j f : ℕ) (e : Expr) → own_field E (In j) f ≡ Some e → is_source e ≡ true
  fields_source j f e p =
      let x = is_field E coherent j f e p in
      let m : Module = x.module' in
      subst (λ t. is_source t ≡ true) x.is_term (source_at m.fields f x.field (both_true _ _ (coherent.within_bounds j (AModule m) x.is_module)).1 x.is_there)
