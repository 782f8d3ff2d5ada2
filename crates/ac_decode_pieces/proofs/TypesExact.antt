-- Types are read exactly, and signatures whatever reads types.
use Rattle.std.proofs.Common.{◌≡◌, refl, ap, sym, subst, ◌∙◌, ℕ, zero, suc, ◌≤◌, Bool, true, false, ◌&&◌, List, [], ◌∷◌, ◌++◌, length, Option, Some, None, append_assoc}
use mathlib.Core.Bool.{true≢false}
use native.Mathlib.Omega.{arith}
use Rattle.ac_types.proofs.FirstLaws.{none≢some}
use Rattle.ac_types.proofs.Same.{both_true, and_true}
use Rattle.ac_types.proofs.SizeLaws.{height-pos}
use Rattle.ac_types.specs.Types.{Bytes, Typ, TInt, TBool, TStr, TUnit, TExn, TTuple, TList, TOpt, TFun, TAbs, TMine, Typs, no_types, typ, is_small, height, height_of_all}
use Rattle.ac_types.specs.Sigs.{Typed_name, Sig_type, Signature}
use Rattle.ac_terms.specs.Spelling.{one_written, two_written, word, listed, type_bytes, all_type_bytes, type_count}
use Rattle.ac_terms.specs.SpelledBy.{manifest_bytes, sig_type_bytes, typed_bytes, sig_bytes}
use Rattle.ac_terms.specs.Bounds.{is_lower, is_width, fits_type, fit_types}
use Rattle.ac_terms.specs.PacketReading.{ReadsPart, give, one, then_read, times, a_sig_type, a_typed, a_signature}
use Rattle.ac_terms.proofs.Back.{Back, back_give, back_one, back_two, back_after}
use Rattle.ac_terms.proofs.TestLaws.{le_true}
use Rattle.ac_decode_pieces.specs.ExactReading.{in_limits, exact_width}
use Rattle.ac_decode_pieces.specs.ExactTypes.{exact_mine, exact_type_table, exact_type_of, exact_type, exact_manifest, exact_sig_type, exact_typed, exact_all_typed, exact_sig_types, exact_sig}
use Rattle.ac_decode_pieces.proofs.Exact.{Took, IsExact, Twice, twice, times_sound, exact_passing, exact_as, AllOf, exact_list, exact_two_parts}
use Rattle.ac_decode_pieces.proofs.Tables.{SoundAt, SoundFrom, table_sound, sound_nothing, sound_give, sound_one, sound_two}
use Rattle.ac_decode_pieces.proofs.Pieces.{name_is_exact, lower_is_exact, width_is_exact, long_count_is_exact}

-- a count and so many items, as the parts of a whole
module _ {A L : Type 0} {f : ReadsPart A} (nil : L) (cons : A → L → L) {P : A → Type 0} {s : A → Bytes} (x : IsExact f P s) (spells : L → Bytes) (count : L → ℕ) (All : L → Type 0)
    (spells_nil : spells nil ≡ []) (spells_cons : (a : A) (l : L) → spells (cons a l) ≡ s a ++ spells l)
    (count_nil : count nil ≡ 0) (count_cons : (a : A) (l : L) → count (cons a l) ≡ suc (count l))
    (all_nil : All nil) (all_cons : (a : A) (l : L) → P a → All l → All (cons a l))
    (again : (l : L) → All l → Back (times nil cons f (count l)) (spells l) l) where
  pub exact_counted : {counts : ReadsPart ℕ} {U : ℕ → Type 0} {number : ℕ → Bytes} → IsExact counts U number →
      IsExact (then_read counts (times nil cons f)) (λ l. U (count l) × All l) (λ l. number (count l) ++ spells l)
  exact_counted {counts} {U} {number} y = record {
    sound = λ bs l rest e. sounds bs l rest (twice (counts bs) (times nil cons f) l rest e);
    back = λ l p. back_after (times nil cons f) (y.back (count l) p.0) (again l p.1);
  }
    where
      sounds : (bs : Bytes) (l : L) (rest : Bytes) → Twice (counts bs) (times nil cons f) l rest → Took (λ m. U (count m) × All m) (λ m. number (count m) ++ spells m) bs l rest
      sounds bs l rest p =
          let u = y.sound bs p.first p.mid p.is in
          let v = times_sound nil cons s spells count P All spells_nil spells_cons count_nil count_cons all_nil all_cons f x.sound p.first p.mid l rest p.later in
          record {
            fits = (subst U (sym v.fits.1) u.fits, v.fits.0);
            parts = u.parts ∙ ap (λ w. number p.first ++ w) v.parts ∙ sym (append_assoc (number p.first) (spells l) rest) ∙ ap (λ n. (number n ++ spells l) ++ rest) (sym v.fits.1);
          }

-- types of at most that height
pub record LowType (own : Bool) (k : ℕ) (T : Typ) : Type 0 where
  pub fits : fits_type own T ≡ true
  pub low : height T ≤ k

record LowTypes (own : Bool) (k : ℕ) (Ts : Typs) : Type 0 where
  fits : fit_types own Ts ≡ true
  low : height_of_all Ts ≤ k

abbrev IsExactType : Bool → ℕ → Type 0
IsExactType own k = IsExact (exact_type_of own k) (LowType own k) type_bytes

module _ (own : Bool) (k : ℕ) (x : IsExactType own k) where
  parts_back : (Ts : Typs) → LowTypes own k Ts → Back (times no_types typ (exact_type_of own k) (type_count Ts)) (all_type_bytes Ts) Ts
  parts_back no_types p = back_give no_types
  parts_back (typ T Ts) p =
      let b = both_true _ _ p.fits in
      back_after (λ a. one (typ a) (times no_types typ (exact_type_of own k) (type_count Ts))) (x.back T (record { fits = b.0; low = let l = p.low in omega arith }))
      (back_one (typ T) (parts_back Ts (record { fits = b.1; low = let l = p.low in omega arith })))

  types_are_exact : IsExact (then_read exact_width (times no_types typ (exact_type_of own k))) (λ Ts. (is_width (type_count Ts) ≡ true) × LowTypes own k Ts) (λ Ts. one_written (type_count Ts) ++ all_type_bytes Ts)
  types_are_exact =
      exact_counted no_types typ x all_type_bytes type_count (LowTypes own k) refl (λ T Ts. refl) refl (λ T Ts. refl)
      (record { fits = refl; low = omega arith })
      (λ T Ts p q. record { fits = and_true p.fits q.fits; low = let a = p.low in let b = q.low in omega arith }) parts_back width_is_exact

  leaf : (T : Typ) → fits_type own T ≡ true → height T ≡ 1 → LowType own (suc k) T
  leaf T w h = record { fits = w; low = omega arith }

  mine_sound : (b : Bool) → SoundAt (λ T. LowType b (suc k) T) type_bytes 11 (exact_mine b)
  mine_sound true = sound_one _ _ 11 TMine lower_is_exact (λ t e. record { fits = e; low = omega arith }) (λ t. refl)
  mine_sound false = sound_nothing _ _ 11

  type_entries : SoundFrom (LowType own (suc k)) type_bytes 0 (exact_type_table own (exact_type_of own k))
  type_entries = (
    sound_nothing _ _ 0,
    (
      sound_give _ _ 1 TInt (leaf TInt refl refl) refl,
      (
        sound_give _ _ 2 TBool (leaf TBool refl refl) refl,
        (
          sound_give _ _ 3 TStr (leaf TStr refl refl) refl,
          (
            sound_give _ _ 4 TUnit (leaf TUnit refl refl) refl,
            (
              sound_give _ _ 5 TExn (leaf TExn refl refl) refl,
              (
                sound_one _ _ 6 TTuple types_are_exact (λ Ts p. record { fits = and_true p.0 p.1.fits; low = let l = p.1.low in omega arith }) (λ Ts. refl),
                (
                  sound_one _ _ 7 TList x (λ T p. record { fits = p.fits; low = let l = p.low in omega arith }) (λ T. refl),
                  (
                    sound_one _ _ 8 TOpt x (λ T p. record { fits = p.fits; low = let l = p.low in omega arith }) (λ T. refl),
                    (
                      sound_two _ _ 9 TFun x x (λ T U p q. record { fits = and_true p.fits q.fits; low = let l = p.low in let m = q.low in omega arith }) (λ T U. refl),
                      (
                        sound_two _ _ 10 TAbs name_is_exact lower_is_exact (λ n t e f. record { fits = and_true e f; low = omega arith }) (λ n t. refl),
                        (mine_sound own, tt),
                      ),
                    ),
                  ),
                ),
              ),
            ),
          ),
        ),
      ),
    ),
  )

-- an own type is read where it may stand
own_back : (own : Bool) (t : Bytes) → (own && is_lower t) ≡ true → Back (exact_mine own) (word t) (TMine t)
own_back true t w = back_one TMine (lower_is_exact.back t w)
own_back false t w = absurd (true≢false (sym w))

next_back : (own : Bool) (k : ℕ) → IsExactType own k → (T : Typ) → LowType own (suc k) T → Back (exact_type_of own (suc k)) (type_bytes T) T
unfolding exact_type_of
next_back own k x TInt p = record { reads = λ r. refl }
next_back own k x TBool p = record { reads = λ r. refl }
next_back own k x TStr p = record { reads = λ r. refl }
next_back own k x TUnit p = record { reads = λ r. refl }
next_back own k x TExn p = record { reads = λ r. refl }
next_back own k x (TTuple Ts) p =
    let w = both_true _ _ p.fits in
    record { reads = (back_one TTuple ((types_are_exact own k x).back Ts (w.0, record { fits = w.1; low = let l = p.low in omega arith }))).reads }
next_back own k x (TList T) p = record { reads = (back_one TList (x.back T (record { fits = p.fits; low = let l = p.low in omega arith }))).reads }
next_back own k x (TOpt T) p = record { reads = (back_one TOpt (x.back T (record { fits = p.fits; low = let l = p.low in omega arith }))).reads }
next_back own k x (TFun T U) p =
    let w = both_true _ _ p.fits in
    record { reads = (back_two TFun (x.back T (record { fits = w.0; low = let l = p.low in omega arith })) (x.back U (record { fits = w.1; low = let l = p.low in omega arith }))).reads }
next_back own k x (TAbs n t) p = let w = both_true _ _ p.fits in record { reads = (back_two TAbs (name_is_exact.back n w.0) (lower_is_exact.back t w.1)).reads }
next_back own k x (TMine t) p = record { reads = (own_back own t p.fits).reads }

next_sound : (own : Bool) (k : ℕ) → IsExactType own k → (bs : Bytes) (T : Typ) (rest : Bytes) → exact_type_of own (suc k) bs ≡ Some (T, rest) → Took (LowType own (suc k)) type_bytes bs T rest
unfolding exact_type_of
next_sound own k x bs T rest e = table_sound (LowType own (suc k)) type_bytes (exact_type_table own (exact_type_of own k)) (type_entries own k x) bs T rest e

none_low : (own : Bool) → IsExactType own 0
unfolding exact_type_of
none_low own = record { sound = λ bs T rest e. absurd (none≢some e); back = λ T p. absurd (let l = p.low in let h = height-pos T in omega arith) }

pub type_of_is_exact : (own : Bool) (k : ℕ) → IsExact (exact_type_of own k) (LowType own k) type_bytes
type_of_is_exact own zero = none_low own
type_of_is_exact own (suc k) = record { sound = next_sound own k (type_of_is_exact own k); back = next_back own k (type_of_is_exact own k) }

-- small types
pub record SmallType (own : Bool) (T : Typ) : Type 0 where
  pub fits : fits_type own T ≡ true
  pub small : is_small T ≡ true

small_low : (T : Typ) → is_small T ≡ true → height T ≤ 100
small_low T e = le_true (height T) 100 (both_true _ _ e).1

pub type_is_exact : (own : Bool) → IsExact (exact_type own) (SmallType own) type_bytes
unfolding exact_type
type_is_exact own =
    exact_as (SmallType own) (λ T p. record { fits = p.0.fits; small = p.1 }) (λ T p. (record { fits = p.fits; low = small_low T p.small }, p.small)) (exact_passing is_small (type_of_is_exact own 100))

-- signatures
abbrev pub SmallManifest : Option Typ → Type 0
SmallManifest None = Unit {0}
SmallManifest (Some T) = SmallType true T

abbrev pub SmallSigType : Sig_type → Type 0
SmallSigType s = (is_lower s.name ≡ true) × SmallManifest s.manifest

abbrev pub SmallTyped : Bool → Typed_name → Type 0
SmallTyped own t = (is_lower t.name ≡ true) × SmallType own t.ty

abbrev pub SmallAll : Bool → List Typed_name → Type 0
SmallAll own ts = (in_limits 0 1024 (length ts) ≡ true) × AllOf (SmallTyped own) ts

abbrev pub SmallSigTypes : List Sig_type → Type 0
SmallSigTypes ts = (in_limits 0 1024 (length ts) ≡ true) × AllOf SmallSigType ts

abbrev pub SmallSig : Signature → Type 0
SmallSig s = SmallSigTypes s.types × SmallAll true s.vals

module _ (type_bytes : Typ → Bytes) (read_type : Bool → ReadsPart Typ) (x : (own : Bool) → IsExact (read_type own) (SmallType own) type_bytes) where
  manifest_is_exact : IsExact (exact_manifest read_type) SmallManifest (manifest_bytes type_bytes)
  unfolding exact_manifest
  manifest_is_exact = record {
    sound = table_sound SmallManifest (manifest_bytes type_bytes) (give None ∷ one Some (read_type true) ∷ [])
        (sound_give _ _ 0 None tt refl, (sound_one _ _ 1 Some (x true) (λ T p. p) (λ T. refl), tt));
    back = again;
  }
    where
      again : (o : Option Typ) → SmallManifest o → Back (exact_manifest read_type) (manifest_bytes type_bytes o) o
      again None p = record { reads = λ r. refl }
      again (Some T) p = record { reads = (back_one Some ((x true).back T p)).reads }

  sig_type_is_exact : IsExact (exact_sig_type read_type) SmallSigType (sig_type_bytes type_bytes)
  unfolding exact_sig_type
  sig_type_is_exact = exact_two_parts a_sig_type (λ s. s.name) (λ s. s.manifest) (λ s. refl) (λ n m. refl) (λ n m. refl) lower_is_exact manifest_is_exact

  typed_is_exact : (own : Bool) → IsExact (exact_typed read_type own) (SmallTyped own) (typed_bytes type_bytes)
  unfolding exact_typed
  typed_is_exact own = exact_two_parts a_typed (λ t. t.name) (λ t. t.ty) (λ t. refl) (λ n T. refl) (λ n T. refl) lower_is_exact (x own)

  pub all_typed_is_exact : (own : Bool) → IsExact (exact_all_typed read_type own) (SmallAll own) (listed two_written (typed_bytes type_bytes))
  unfolding exact_all_typed
  all_typed_is_exact own = exact_list (typed_is_exact own) (long_count_is_exact 0 1024 (omega arith))

  sig_types_is_exact : IsExact (exact_sig_types read_type) SmallSigTypes (listed two_written (sig_type_bytes type_bytes))
  unfolding exact_sig_types
  sig_types_is_exact = exact_list sig_type_is_exact (long_count_is_exact 0 1024 (omega arith))

  pub sig_is_exact : IsExact (exact_sig read_type) SmallSig (sig_bytes type_bytes)
  unfolding exact_sig
  sig_is_exact = exact_two_parts a_signature (λ s. s.types) (λ s. s.vals) (λ s. refl) (λ ts vs. refl) (λ ts vs. refl) sig_types_is_exact (all_typed_is_exact true)
