-- What the bounds of a definition say of its parts, and its parts of it.
use Rattle.std.proofs.Common.{◌≡◌, refl, ap, sym, ◌∙◌, ℕ, Bool, true, false, ◌&&◌, List, [], ◌∷◌, ◌++◌, length, map, Option, Some, None}
use Rattle.std.specs.Prelude.{nat_le, flat_map, option_to_list}
use Rattle.std.specs.Option.{option_map_or}
use Rattle.std.specs.List.{list_all}
use native.Mathlib.Omega.{arith}
use Rattle.ac_types.proofs.Same.{both_true, and_true}
use Rattle.ac_types.specs.Types.{Typ, is_small}
use Rattle.ac_types.specs.Sigs.{Typed_name, Sig_type, Signature}
use Rattle.ac_terms.specs.Defs.{Field}
use Rattle.ac_terms.specs.Nesting.{nesting}
use Rattle.ac_terms.specs.Parts.{Portion, OfType, term_parts, sig_types}
use Rattle.ac_terms.specs.Bounds.{is_lower, fits_type, fits_term, fits_typed, fits_sig, has_small_types}
use Rattle.ac_terms.proofs.AllLaws.{all_left, all_right, all_append}
use Rattle.ac_terms.proofs.TestLaws.{le_true, le_is}
use Rattle.ac_decode_pieces.specs.ExactReading.{in_limits}
use Rattle.ac_decode_pieces.proofs.Exact.{AllOf}
use Rattle.ac_decode_pieces.proofs.TypesExact.{SmallType, SmallManifest, SmallSigType, SmallTyped, SmallAll, SmallSig}
use Rattle.ac_decode.proofs.PartsSmall.{small_join, small_left, small_right, types_as_parts}
use Rattle.ac_decode.proofs.TermsExact.{ProperTerm}

-- the types of a signature
manifest_fits : (o : Option Typ) → SmallManifest o → option_map_or (fits_type true) o true ≡ true
manifest_fits None p = refl
manifest_fits (Some T) p = p.fits

manifest_small : (o : Option Typ) → SmallManifest o → list_all is_small (option_to_list o) ≡ true
manifest_small None p = refl
manifest_small (Some T) p = and_true p.small refl

manifest_from : (o : Option Typ) → option_map_or (fits_type true) o true ≡ true → list_all is_small (option_to_list o) ≡ true → SmallManifest o
manifest_from None e s = tt
manifest_from (Some T) e s = record { fits = e; small = (both_true _ _ s).0 }

abbrev fits_sig_type : Sig_type → Bool
fits_sig_type t = is_lower t.name && option_map_or (fits_type true) t.manifest true

abbrev manifests : List Sig_type → List Typ
manifests ts = flat_map (λ (t : Sig_type). option_to_list t.manifest) ts

types_fit : (ts : List Sig_type) → AllOf SmallSigType ts → list_all fits_sig_type ts ≡ true
types_fit [] a = refl
types_fit (t ∷ ts) a = and_true (and_true a.0.0 (manifest_fits t.manifest a.0.1)) (types_fit ts a.1)

types_small : (ts : List Sig_type) → AllOf SmallSigType ts → list_all is_small (manifests ts) ≡ true
types_small [] a = refl
types_small (t ∷ ts) a = all_append is_small (option_to_list t.manifest) (manifests ts) (manifest_small t.manifest a.0.1) (types_small ts a.1)

types_from : (ts : List Sig_type) → list_all fits_sig_type ts ≡ true → list_all is_small (manifests ts) ≡ true → AllOf SmallSigType ts
types_from [] e s = tt
types_from (t ∷ ts) e s =
    let p = both_true _ _ e in
    let q = both_true _ _ p.0 in
    ((q.0, manifest_from t.manifest q.1 (all_left is_small (option_to_list t.manifest) (manifests ts) s)), types_from ts p.1 (all_right is_small (option_to_list t.manifest) (manifests ts) s))

-- names with types
abbrev their_types : List Typed_name → List Typ
their_types xs = map (λ (x : Typed_name). x.ty) xs

all_fit : (own : Bool) (xs : List Typed_name) → AllOf (SmallTyped own) xs → list_all (fits_typed own) xs ≡ true
all_fit own [] a = refl
all_fit own (x ∷ xs) a = and_true (and_true a.0.0 a.0.1.fits) (all_fit own xs a.1)

all_small : (own : Bool) (xs : List Typed_name) → AllOf (SmallTyped own) xs → list_all is_small (their_types xs) ≡ true
all_small own [] a = refl
all_small own (x ∷ xs) a = and_true a.0.1.small (all_small own xs a.1)

all_from : (own : Bool) (xs : List Typed_name) → list_all (fits_typed own) xs ≡ true → list_all is_small (their_types xs) ≡ true → AllOf (SmallTyped own) xs
all_from own [] e s = tt
all_from own (x ∷ xs) e s =
    let p = both_true _ _ e in
    let q = both_true _ _ p.0 in
    let r = both_true _ _ s in
    ((q.0, record { fits = q.1; small = r.0 }), all_from own xs p.1 r.1)

-- a count that has no least
pub few : (n : ℕ) → in_limits 0 1024 n ≡ true → nat_le n 1024 ≡ true
few n e = (both_true _ _ e).1

pub few_from : (n : ℕ) → nat_le n 1024 ≡ true → in_limits 0 1024 n ≡ true
few_from n e = and_true (le_is 0 n (omega arith)) e

-- signatures
pub sig_fits : (s : Signature) → SmallSig s → fits_sig s ≡ true
sig_fits s p =
    and_true (and_true (and_true (few (length s.types) p.0.0) (few (length s.vals) p.1.0)) (types_fit s.types p.0.1)) (all_fit true s.vals p.1.1)

pub sig_small : (s : Signature) → SmallSig s → has_small_types (map OfType (sig_types s)) ≡ true
sig_small s p =
    ap (list_all is_small) (types_as_parts (sig_types s)) ∙ all_append is_small (manifests s.types) (their_types s.vals) (types_small s.types p.0.1) (all_small true s.vals p.1.1)

pub sig_from : (s : Signature) → fits_sig s ≡ true → has_small_types (map OfType (sig_types s)) ≡ true → SmallSig s
sig_from s e h =
    let small : list_all is_small (manifests s.types ++ their_types s.vals) ≡ true = ap (list_all is_small) (sym (types_as_parts (sig_types s))) ∙ h in
    let p = both_true _ _ e in
    let q = both_true _ _ p.0 in
    let r = both_true _ _ q.0 in (
      (few_from (length s.types) r.0, types_from s.types q.1 (all_left is_small (manifests s.types) (their_types s.vals) small)),
      (few_from (length s.vals) r.1, all_from true s.vals p.1 (all_right is_small (manifests s.types) (their_types s.vals) small)),
    )

-- the types of a struct or of a likespec
abbrev pub typed_parts : List Typed_name → List Portion
typed_parts xs = map (λ (x : Typed_name). OfType x.ty) xs

pub typed_fits : (xs : List Typed_name) → SmallAll false xs → list_all (fits_typed false) xs ≡ true
typed_fits xs a = all_fit false xs a.1

pub typed_small : (xs : List Typed_name) → AllOf (SmallTyped false) xs → has_small_types (typed_parts xs) ≡ true
typed_small [] a = refl
typed_small (x ∷ xs) a = and_true a.0.1.small (typed_small xs a.1)

small_typed : (xs : List Typed_name) → has_small_types (typed_parts xs) ≡ true → list_all is_small (their_types xs) ≡ true
small_typed [] e = refl
small_typed (x ∷ xs) e = let p = both_true _ _ e in and_true p.0 (small_typed xs p.1)

pub typed_from : (xs : List Typed_name) → nat_le (length xs) 1024 ≡ true → list_all (fits_typed false) xs ≡ true → has_small_types (typed_parts xs) ≡ true → SmallAll false xs
typed_from xs n e h = (few_from (length xs) n, all_from false xs e (small_typed xs h))

-- fields
abbrev pub ProperField : Field → Type 0
ProperField f = ((is_lower f.name ≡ true) × SmallType false f.ty) × ProperTerm false 500 f.term

abbrev pub fits_field : Field → Bool
fits_field f = is_lower f.name && fits_type false f.ty && fits_term false f.term

abbrev pub field_parts : List Field → List Portion
field_parts fs = flat_map (λ (f : Field). OfType f.ty ∷ term_parts f.term) fs

abbrev pub nestings : List Field → List ℕ
nestings fs = map (λ (f : Field). nesting f.term) fs

pub fields_fit : (fs : List Field) → AllOf ProperField fs → list_all fits_field fs ≡ true
fields_fit [] a = refl
fields_fit (f ∷ fs) a = and_true (and_true (and_true a.0.0.0 a.0.0.1.fits) a.0.1.fits) (fields_fit fs a.1)

pub fields_nest : (fs : List Field) → AllOf ProperField fs → list_all (λ n. nat_le n 500) (nestings fs) ≡ true
fields_nest [] a = refl
fields_nest (f ∷ fs) a = and_true (le_is (nesting f.term) 500 a.0.1.low) (fields_nest fs a.1)

pub fields_small : (fs : List Field) → AllOf ProperField fs → has_small_types (field_parts fs) ≡ true
fields_small [] a = refl
fields_small (f ∷ fs) a = small_join (OfType f.ty ∷ term_parts f.term) (field_parts fs) (and_true a.0.0.1.small a.0.1.small) (fields_small fs a.1)

pub fields_from : (fs : List Field) → list_all fits_field fs ≡ true → list_all (λ n. nat_le n 500) (nestings fs) ≡ true → has_small_types (field_parts fs) ≡ true → AllOf ProperField fs
fields_from [] e n h = tt
fields_from (f ∷ fs) e n h =
    let p = both_true _ _ e in
    let q = both_true _ _ p.0 in
    let r = both_true _ _ q.0 in
    let m = both_true _ _ n in
    let s = both_true _ _ (small_left (OfType f.ty ∷ term_parts f.term) (field_parts fs) h) in (
      ((r.0, record { fits = r.1; small = s.0 }), record { fits = q.1; low = le_true (nesting f.term) 500 m.0; small = s.1 }),
      fields_from fs p.1 m.1 (small_right (OfType f.ty ∷ term_parts f.term) (field_parts fs) h),
    )
