-- The types and the values that an entry of a coherent environment shows: they are known there, and within the bounds of their spelling.
use Rattle.std.proofs.Common.{◌≡◌, ◌∙◌, refl, sym, ap, ap₂, subst, ℕ, suc, Bool, true, false, List, [], ◌∷◌, ◌++◌, map, Option, Some, None}
use Rattle.std.specs.Prelude.{is_some, flat_map, option_to_list, option_map, option_and_then, unwrap_or, slice_get}
use Rattle.std.specs.List.{list_all}
use Rattle.std.specs.Option.{option_map_or}
use Rattle.ac_types.proofs.FirstLaws.{none≢some, some_eq}
use Rattle.ac_types.proofs.Same.{both_true, and_true, bytes_eq}
use Rattle.ac_types.specs.Types.{Bytes, Typ, TTuple, TList, TOpt, TFun, TAbs, TMine, Typs, no_types, typ, same_bytes, mentions, with_mine, all_with_mine}
use Rattle.ac_types.specs.Sigs.{Typed_name, Sig_type, Signature, named_type, type_under, is_abstract}
use Rattle.ac_terms.specs.Defs.{Environment, Entry, Def, AModule, AnImport, AMark, signature, def_of, signature_at, name_at}
use Rattle.ac_terms.specs.Parts.{OfType, sig_types, def_parts, part_mentions}
use Rattle.ac_terms.specs.Spelling.{type_count}
use Rattle.ac_terms.specs.Bounds.{is_lower, is_name, is_width, fits_type, fit_types, fits_typed, fits_sig, fits_def}
use Rattle.ac_terms.proofs.AllLaws.{all_left, all_right}
use Rattle.ac_rules.specs.Views.{is_known, are_known}
use Rattle.ac_rules.specs.Modules.{mine, all_mine, is_closed}
use Rattle.ac_rules.specs.Coherent.{IsCoherent}
use Rattle.ac_rules.proofs.Rules.{map_some, then_some}
use Rattle.ac_rules.proofs.PartLaws.{AllPass, pass_left}
use Rattle.ac_rules.proofs.KnownTypes.{closed_sig, outside_known, declared_known, def_there}
use Rattle.ac_rules.proofs.Unspoken.{name_sized, has_a_name}
use Rattle.ac_rules.proofs.Grown.{known_from}
use Rattle.ac_resolve_scopes.specs.Scopes.{type_outside}

-- a type whose abstract types are known, whose own types are among some, and which is within bounds
pub record IsFine (E : Environment) (own : Bytes → Bool) (inside : Bool) (T : Typ) : Type 0 where
  pub known : are_known E T ≡ true
  pub mine : list_all own (mine T) ≡ true
  pub fits : fits_type inside T ≡ true

-- what a list has under a name passes a test that all pass
pub record Under (test : Sig_type → Bool) (t : Bytes) (m : Option Typ) : Type 0 where
  pub spec : Sig_type
  pub passes : test spec ≡ true
  pub named : spec.name ≡ t
  pub is : spec.manifest ≡ m

pub type_passes : (test : Sig_type → Bool) (xs : List Sig_type) (t : Bytes) (m : Option Typ) → list_all test xs ≡ true → type_under t xs ≡ Some m → Under test t m
type_passes test [] t m h e = absurd (none≢some e)
type_passes test (x ∷ xs) t m h e = on (type_passes test xs t m) (same_bytes x.name t) refl e where
  both : (test x ≡ true) × (list_all test xs ≡ true)
  both = both_true (test x) (list_all test xs) h

  on : (list_all test xs ≡ true → type_under t xs ≡ Some m → Under test t m) → (b : Bool) → same_bytes x.name t ≡ b → elim b as (λ z. Option (Option Typ)) [ true ↦ Some x.manifest | false ↦ type_under t xs ] ≡ Some m → Under test t m
  on more true is found = record { spec = x; passes = both.0; named = bytes_eq x.name t is; is = some_eq found }
  on more false is found = more both.1 found

pub record Among (test : Typed_name → Bool) (x : Bytes) (T : Typ) : Type 0 where
  pub spec : Typed_name
  pub passes : test spec ≡ true
  pub named : spec.name ≡ x
  pub is : spec.ty ≡ T

pub value_passes : (test : Typed_name → Bool) (xs : List Typed_name) (x : Bytes) (T : Typ) → list_all test xs ≡ true → named_type x xs ≡ Some T → Among test x T
value_passes test [] x T h e = absurd (none≢some e)
value_passes test (y ∷ ys) x T h e = on (value_passes test ys x T) (same_bytes y.name x) refl e where
  both : (test y ≡ true) × (list_all test ys ≡ true)
  both = both_true (test y) (list_all test ys) h

  on : (list_all test ys ≡ true → named_type x ys ≡ Some T → Among test x T) → (b : Bool) → same_bytes y.name x ≡ b → elim b as (λ z. Option Typ) [ true ↦ Some y.ty | false ↦ named_type x ys ] ≡ Some T → Among test x T
  on more true is found = record { spec = y; passes = both.0; named = bytes_eq y.name x is; is = some_eq found }
  on more false is found = more both.1 found

-- a manifest type is among the types of its signature
manifest_passes : (p : Bytes × Bytes → Bool) (xs : List Sig_type) (rest : List Typ) (t : Bytes) (M : Typ)
    → AllPass p (map OfType (flat_map (λ (x : Sig_type). option_to_list x.manifest) xs ++ rest)) → type_under t xs ≡ Some (Some M) → list_all p (mentions M) ≡ true
manifest_passes p [] rest t M h e = absurd (none≢some e)
manifest_passes p (x ∷ xs) rest t M h e = on (manifest_passes p xs rest t M) x.manifest refl (same_bytes x.name t) h e where
  tail : List Typ
  tail = flat_map (λ (y : Sig_type). option_to_list y.manifest) xs ++ rest

  on : (AllPass p (map OfType tail) → type_under t xs ≡ Some (Some M) → list_all p (mentions M) ≡ true) → (m : Option Typ) → x.manifest ≡ m → (b : Bool)
      → AllPass p (map OfType ((option_to_list m ++ flat_map (λ (y : Sig_type). option_to_list y.manifest) xs) ++ rest)) → elim b as (λ z. Option (Option Typ)) [ true ↦ Some m | false ↦ type_under t xs ] ≡ Some (Some M) → list_all p (mentions M) ≡ true
  on more None is true all found = absurd (none≢some (some_eq found))
  on more None is false all found = more all found
  on more (Some A) is true all found = subst (λ T. list_all p (mentions T) ≡ true) (some_eq (some_eq found)) (all_left p (mentions A) (part_mentions (map OfType tail)) all)
  on more (Some A) is false all found = more (all_right p (mentions A) (part_mentions (map OfType tail)) all) found

-- from outside an own type is of the entry's name
all_counted : (n : Bytes) (Ts : Typs) → type_count (all_with_mine (TAbs n) Ts) ≡ type_count Ts
all_counted n no_types = refl
all_counted n (typ T Ts) = ap suc (all_counted n Ts)

mutual
  outside_fits : (inside : Bool) (n : Bytes) → is_name n ≡ true → (T : Typ) → fits_type true T ≡ true → fits_type inside (with_mine (TAbs n) T) ≡ true
  outside_fits inside n h (TTuple Ts) k = let r = both_true (is_width (type_count Ts)) _ k in and_true (ap is_width (all_counted n Ts) ∙ r.0) (all_outside_fit inside n h Ts r.1)
  outside_fits inside n h (TList T) k = outside_fits inside n h T k
  outside_fits inside n h (TOpt T) k = outside_fits inside n h T k
  outside_fits inside n h (TFun T U) k = let r = both_true (fits_type true T) _ k in and_true (outside_fits inside n h T r.0) (outside_fits inside n h U r.1)
  outside_fits inside n h (TAbs m t) k = k
  outside_fits inside n h (TMine t) k = and_true h k
  outside_fits inside n h _ k = refl

  all_outside_fit : (inside : Bool) (n : Bytes) → is_name n ≡ true → (Ts : Typs) → fit_types true Ts ≡ true → fit_types inside (all_with_mine (TAbs n) Ts) ≡ true
  all_outside_fit inside n h no_types k = refl
  all_outside_fit inside n h (typ T Ts) k = let r = both_true (fits_type true T) _ k in and_true (outside_fits inside n h T r.0) (all_outside_fit inside n h Ts r.1)

mutual
  none_mine : (n : Bytes) (T : Typ) → mine (with_mine (TAbs n) T) ≡ []
  none_mine n (TTuple Ts) = no_mine n Ts
  none_mine n (TList T) = none_mine n T
  none_mine n (TOpt T) = none_mine n T
  none_mine n (TFun T U) = ap₂ (λ xs ys. xs ++ ys) (none_mine n T) (none_mine n U)
  none_mine n (TAbs m t) = refl
  none_mine n (TMine t) = refl
  none_mine n _ = refl

  no_mine : (n : Bytes) (Ts : Typs) → all_mine (all_with_mine (TAbs n) Ts) ≡ []
  no_mine n no_types = refl
  no_mine n (typ T Ts) = ap₂ (λ xs ys. xs ++ ys) (none_mine n T) (no_mine n Ts)

-- the signature of a definition within bounds
sig_fits : (d : Def) (s : Signature) → fits_def d ≡ true → signature d ≡ Some s → fits_sig s ≡ true
sig_fits (AModule m) s h e = subst (λ x. fits_sig x ≡ true) (some_eq e) (both_true _ _ (both_true _ _ (both_true _ _ (both_true _ _ (both_true _ _ h).0).0).0).0).1
sig_fits (AnImport i) s h e = subst (λ x. fits_sig x ≡ true) (some_eq e) (both_true _ _ (both_true _ _ (both_true _ _ (both_true _ _ (both_true _ _ (both_true _ _ (both_true _ _ h).0).0).0).0).0).0).1
sig_fits (AMark t) s h e = absurd (none≢some e)

sig_passes : (p : Bytes × Bytes → Bool) (d : Def) (s : Signature) → AllPass p (def_parts d) → signature d ≡ Some s → AllPass p (map OfType (sig_types s))
sig_passes p (AModule m) s h e =
    subst (λ x. AllPass p (map OfType (sig_types x))) (some_eq e) (pass_left p (map OfType (sig_types m.sig)) _ (pass_left p (map OfType (sig_types m.sig) ++ map (λ (t : Typed_name). OfType t.ty) m.types) _ h))
sig_passes p (AnImport i) s h e = subst (λ x. AllPass p (map OfType (sig_types x))) (some_eq e) (pass_left p (map OfType (sig_types i.sig)) _ h)
sig_passes p (AMark t) s h e = absurd (none≢some e)

module _ (E : Environment) (coherent : IsCoherent E) where
  -- an entry with a signature
  record Shown (j : ℕ) (s : Signature) : Type 0 where
    entry : Entry
    there : slice_get E j ≡ Some entry
    has_sig : signature entry.def ≡ Some s
    name : Bytes
    named : name_at E j ≡ Some name

  shown : (j : ℕ) (s : Signature) → signature_at E j ≡ Some s → Shown j s
  shown j s h =
      let d = then_some signature (def_of E j) s h in
      let e = map_some (λ (x : Entry). x.def) (slice_get E j) d.0 d.1 in
      let n = has_a_name E coherent j (ap is_some h) in
      record { entry = e.0; there = e.1; has_sig = ap signature e.2 ∙ d.2; name = n.0; named = n.1 }

  bounds : (j : ℕ) (s : Signature) (x : Shown j s) → fits_sig s ≡ true
  bounds j s x = sig_fits x.entry.def s (coherent.within_bounds j x.entry.def (def_there E coherent j x.entry x.there)) x.has_sig

  keeps : (j : ℕ) (s : Signature) (x : Shown j s) → x.entry.name ≡ Some x.name
  keeps j s x = sym (ap (option_and_then (λ (e : Entry). e.name)) x.there) ∙ x.named

  -- a type of an entry
  pub outside_fine : (own : Bytes → Bool) (inside : Bool) (t : Bytes) (j : ℕ) (T : Typ) → type_outside E t j ≡ Some T → IsFine E own inside T
  outside_fine own inside t j T h =
      let a = then_some (λ (s : Signature). option_map (λ m. with_mine (TAbs (unwrap_or (name_at E j) [])) (unwrap_or m (TMine t))) (type_under t s.types)) (signature_at E j) T h in
      let b = map_some (λ m. with_mine (TAbs (unwrap_or (name_at E j) [])) (unwrap_or m (TMine t))) (type_under t a.0.types) T a.2 in
      let x = shown j a.0 a.1 in
      subst (IsFine E own inside) (ap (λ o. with_mine (TAbs (unwrap_or o [])) (unwrap_or b.0 (TMine t))) (sym x.named) ∙ b.2) (on j a.0 x b.0 b.1)
    where
      fits_name : (j : ℕ) (s : Signature) (x : Shown j s) → is_name x.name ≡ true
      fits_name j s x = name_sized E coherent j x.name x.named

      known_name : (j : ℕ) (s : Signature) (x : Shown j s) (u : Bytes) → is_abstract (type_under u s.types) ≡ true → is_known E (x.name, u) ≡ true
      known_name j s x = declared_known E coherent j x.entry s x.name x.there x.has_sig (keeps j s x)

      on : (j : ℕ) (s : Signature) (x : Shown j s) (m : Option Typ) → type_under t s.types ≡ Some m → IsFine E own inside (with_mine (TAbs x.name) (unwrap_or m (TMine t)))
      on j s x None found =
          let u = type_passes _ s.types t None (both_true _ _ (both_true _ _ (bounds j s x)).0).1 found in
          let lower : is_lower t ≡ true = ap is_lower (sym u.named) ∙ (both_true _ _ u.passes).0 in
          record { known = and_true (known_name j s x t (ap is_abstract found)) refl; mine = refl; fits = and_true (fits_name j s x) lower }
      on j s x (Some M) found =
          let u = type_passes _ s.types t (Some M) (both_true _ _ (both_true _ _ (bounds j s x)).0).1 found in
          let c = type_passes _ s.types t (Some M) (both_true _ _ (closed_sig E coherent j x.entry.def s (def_there E coherent j x.entry x.there) x.has_sig)).0 found in
          let fits : fits_type true M ≡ true = ap (λ o. option_map_or (fits_type true) o true) (sym u.is) ∙ (both_true _ _ u.passes).1 in
          let closed : is_closed s M ≡ true = ap (λ o. option_map_or (is_closed s) o true) (sym c.is) ∙ c.passes in
          let early = manifest_passes _ s.types (map (λ (v : Typed_name). v.ty) s.vals) t M (sig_passes _ x.entry.def s (coherent.mentions j x.entry.def (def_there E coherent j x.entry x.there)) x.has_sig) found in
          record {
            known = outside_known E coherent s x.name (known_name j s x) M (known_from E j M early) closed;
            mine = ap (list_all own) (none_mine x.name M);
            fits = outside_fits inside x.name (fits_name j s x) M fits;
          }

  -- the name of a value of an entry
  pub value_lower : (j : ℕ) (s : Signature) (x : Bytes) (U : Typ) → signature_at E j ≡ Some s → named_type x s.vals ≡ Some U → is_lower x ≡ true
  value_lower j s x U h found =
      let u = value_passes (fits_typed true) s.vals x U (both_true _ _ (bounds j s (shown j s h))).1 found in
      ap is_lower (sym u.named) ∙ (both_true _ _ u.passes).0
