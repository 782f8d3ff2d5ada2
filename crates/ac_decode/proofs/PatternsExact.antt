-- Patterns are read exactly, whatever reads types.
use Rattle.std.proofs.Common.{◌≡◌, refl, ap, ℕ, zero, suc, ◌≤◌, Bool, true, false, ◌&&◌, ◌++◌, Some}
use Rattle.std.specs.Prelude.{nat_le, not}
use Rattle.std.specs.List.{list_all}
use Rattle.std.proofs.lemmas.Bool.Decides.{nat_tests}
use native.Mathlib.Omega.{arith}
use Rattle.ac_types.proofs.FirstLaws.{none≢some}
use Rattle.ac_types.proofs.Same.{both_true, and_true}
use Rattle.ac_types.specs.Limits.{longest_string}
use Rattle.ac_types.specs.Types.{Bytes, Typ, is_small}
use Rattle.ac_terms.specs.Terms.{Pattern, PWild, PVar, PInt, PBool, PStr, PUnit, PTuple, PNil, PCons, PAbsent, PPresent, PExn, PExnOf, Patterns, no_patterns, pattern'}
use Rattle.ac_types.specs.Exceptions.{has_text}
use Rattle.ac_terms.specs.Nesting.{pattern_nesting, pattern_depth}
use Rattle.ac_terms.specs.Parts.{pattern_types, all_pattern_types}
use Rattle.ac_terms.specs.Spelling.{one_written, pattern_count}
use Rattle.ac_terms.specs.SpelledBy.{pattern_bytes, all_pattern_bytes}
use Rattle.ac_terms.specs.Bounds.{is_width, fits_pattern, fit_patterns}
use Rattle.ac_terms.specs.PacketReading.{ReadsPart, one, then_read, times}
use Rattle.ac_terms.proofs.AllLaws.{all_left, all_right, all_append}
use Rattle.ac_terms.proofs.Back.{Back, back_give, back_one, back_two, back_after}
use Rattle.ac_terms.proofs.TestLaws.{not_true}
use Rattle.ac_decode_pieces.specs.ExactReading.{exact_width}
use Rattle.ac_decode_pieces.proofs.Exact.{Took, IsExact}
use Rattle.ac_decode_pieces.proofs.Tables.{SoundFrom, table_sound, sound_nothing, sound_give, sound_one, sound_two}
use Rattle.ac_decode_pieces.proofs.Pieces.{eight_is_exact, truth_is_exact, text_is_exact, width_is_exact}
use Rattle.ac_decode_pieces.proofs.TypesExact.{SmallType, exact_counted}
use Rattle.ac_decode.specs.inner.ExactTerms.{is_exn, exact_pattern_table, exact_pattern}
use Rattle.ac_decode.proofs.Texts.{sound_text, back_with_text, back_without_text}

-- patterns of at most that nesting
pub record Proper (k : ℕ) (p : Pattern) : Type 0 where
  pub fits : fits_pattern p ≡ true
  pub low : pattern_nesting p ≤ k
  pub small : list_all is_small (pattern_types p) ≡ true

record AllProper (k : ℕ) (ps : Patterns) : Type 0 where
  fits : fit_patterns ps ≡ true
  low : pattern_depth ps ≤ k
  small : list_all is_small (all_pattern_types ps) ≡ true

pattern-pos : (p : Pattern) → 1 ≤ pattern_nesting p
pattern-pos PWild = omega arith
pattern-pos p = omega arith

pub without_text : (k : ℕ) → is_exn k ≡ true → has_text k ≡ false → (nat_le k 9 && not (has_text k)) ≡ true
without_text k e h = and_true e (ap not h)

pub text_exn : (k : ℕ) → has_text k ≡ true → is_exn k ≡ true
text_exn k h = grind (arith, nat_tests)

module _ (type_bytes : Typ → Bytes) (read_type : Bool → ReadsPart Typ) (x : (own : Bool) → IsExact (read_type own) (SmallType own) type_bytes) where
  abbrev pub IsExactPattern : ℕ → Type 0
  IsExactPattern k = IsExact (exact_pattern read_type k) (Proper k) (pattern_bytes type_bytes)

  module _ (k : ℕ) (y : IsExactPattern k) where
    all_back : (ps : Patterns) → AllProper k ps → Back (times no_patterns pattern' (exact_pattern read_type k) (pattern_count ps)) (all_pattern_bytes type_bytes ps) ps
    all_back no_patterns a = back_give no_patterns
    all_back (pattern' p ps) a =
        let b = both_true _ _ a.fits in
        let s = a.small in
        back_after (λ q. one (pattern' q) (times no_patterns pattern' (exact_pattern read_type k) (pattern_count ps)))
        (y.back p (record { fits = b.0; low = let l = a.low in omega arith; small = all_left is_small (pattern_types p) (all_pattern_types ps) s }))
        (back_one (pattern' p) (all_back ps (record { fits = b.1; low = let l = a.low in omega arith; small = all_right is_small (pattern_types p) (all_pattern_types ps) s })))

    patterns_are_exact : IsExact (then_read exact_width (times no_patterns pattern' (exact_pattern read_type k))) (λ ps. (is_width (pattern_count ps) ≡ true) × AllProper k ps) (λ ps. one_written (pattern_count ps) ++ all_pattern_bytes type_bytes ps)
    patterns_are_exact =
        exact_counted no_patterns pattern' y (all_pattern_bytes type_bytes) pattern_count (AllProper k) refl (λ p ps. refl) refl (λ p ps. refl)
        (record { fits = refl; low = omega arith; small = refl })
        (λ p ps a b. record { fits = and_true a.fits b.fits; low = let l = a.low in let m = b.low in omega arith; small = all_append is_small (pattern_types p) (all_pattern_types ps) a.small b.small }) all_back width_is_exact

    flat : (p : Pattern) → fits_pattern p ≡ true → pattern_nesting p ≡ 1 → list_all is_small (pattern_types p) ≡ true → Proper (suc k) p
    flat p w n s = record { fits = w; low = omega arith; small = s }

    entries : SoundFrom (Proper (suc k)) (pattern_bytes type_bytes) 0 (exact_pattern_table read_type (exact_pattern read_type k))
    entries = (
      sound_nothing _ _ 0,
      (
        sound_give _ _ 1 PWild (flat PWild refl refl refl) refl,
        (
          sound_one _ _ 2 PVar (x false) (λ T p. flat (PVar T) p.fits refl (and_true p.small refl)) (λ T. refl),
          (
            sound_one _ _ 3 PInt eight_is_exact (λ n e. flat (PInt n) e refl refl) (λ n. refl),
            (
              sound_one _ _ 4 PBool truth_is_exact (λ b e. flat (PBool b) refl refl refl) (λ b. refl),
              (
                sound_one _ _ 5 PStr (text_is_exact longest_string (omega arith)) (λ s e. flat (PStr s) e refl refl) (λ s. refl),
                (
                  sound_give _ _ 6 PUnit (flat PUnit refl refl refl) refl,
                  (
                    sound_one _ _ 7 PTuple patterns_are_exact (λ ps p. record { fits = and_true p.0 p.1.fits; low = let l = p.1.low in omega arith; small = p.1.small }) (λ ps. refl),
                    (
                      sound_give _ _ 8 PNil (flat PNil refl refl refl) refl,
                      (
                        sound_two _ _ 9 PCons y y (λ p q a b. record { fits = and_true a.fits b.fits; low = let l = a.low in let m = b.low in omega arith; small = all_append is_small (pattern_types p) (pattern_types q) a.small b.small }) (λ p q. refl),
                        (
                          sound_give _ _ 10 PAbsent (flat PAbsent refl refl refl) refl,
                          (
                            sound_one _ _ 11 PPresent y (λ p a. record { fits = a.fits; low = let l = a.low in omega arith; small = a.small }) (λ p. refl),
                            (sound_text _ _ 12 PExn PExnOf y (λ n e h. flat (PExn n) (without_text n e h) refl refl) (λ n p h a. record { fits = and_true h a.fits; low = let l = a.low in omega arith; small = a.small }) (λ n. refl) (λ n p. refl), tt),
                          ),
                        ),
                      ),
                    ),
                  ),
                ),
              ),
            ),
          ),
        ),
      ),
    )

    next_back : (p : Pattern) → Proper (suc k) p → Back (exact_pattern read_type (suc k)) (pattern_bytes type_bytes p) p
    unfolding exact_pattern
    next_back PWild a = record { reads = λ r. refl }
    next_back (PVar T) a = record { reads = (back_one PVar ((x false).back T (record { fits = a.fits; small = (both_true _ _ a.small).0 }))).reads }
    next_back (PInt n) a = record { reads = (back_one PInt (eight_is_exact.back n a.fits)).reads }
    next_back (PBool b) a = record { reads = (back_one PBool (truth_is_exact.back b tt)).reads }
    next_back (PStr s) a = record { reads = (back_one PStr ((text_is_exact longest_string (omega arith)).back s a.fits)).reads }
    next_back PUnit a = record { reads = λ r. refl }
    next_back (PTuple ps) a =
        let w = both_true _ _ a.fits in
        record { reads = (back_one PTuple (patterns_are_exact.back ps (w.0, record { fits = w.1; low = let l = a.low in omega arith; small = a.small }))).reads }
    next_back PNil a = record { reads = λ r. refl }
    next_back (PCons p q) a =
        let w = both_true _ _ a.fits in
        record { reads = (back_two PCons (y.back p (record { fits = w.0; low = let l = a.low in omega arith; small = all_left is_small (pattern_types p) (pattern_types q) a.small })) (y.back q (record { fits = w.1; low = let l = a.low in omega arith; small = all_right is_small (pattern_types p) (pattern_types q) a.small }))).reads }
    next_back PAbsent a = record { reads = λ r. refl }
    next_back (PPresent p) a = record { reads = (back_one PPresent (y.back p (record { fits = a.fits; low = let l = a.low in omega arith; small = a.small }))).reads }
    next_back (PExn n) a =
        let w = both_true _ _ a.fits in
        record { reads = (back_without_text PExn PExnOf (exact_pattern read_type k) n w.0 (not_true (has_text n) w.1)).reads }
    next_back (PExnOf n p) a =
        let w = both_true _ _ a.fits in
        record { reads = (back_with_text PExn PExnOf (exact_pattern read_type k) n (text_exn n w.0) w.0 (y.back p (record { fits = w.1; low = let l = a.low in omega arith; small = a.small }))).reads }

    next_sound : (bs : Bytes) (p : Pattern) (rest : Bytes) → exact_pattern read_type (suc k) bs ≡ Some (p, rest) → Took (Proper (suc k)) (pattern_bytes type_bytes) bs p rest
    unfolding exact_pattern
    next_sound bs p rest e = table_sound (Proper (suc k)) (pattern_bytes type_bytes) (exact_pattern_table read_type (exact_pattern read_type k)) entries bs p rest e

  none_low : IsExactPattern 0
  unfolding exact_pattern
  none_low = record { sound = λ bs p rest e. absurd (none≢some e); back = λ p a. absurd (let l = a.low in let h = pattern-pos p in omega arith) }

  pub pattern_is_exact : (k : ℕ) → IsExactPattern k
  pattern_is_exact zero = none_low
  pattern_is_exact (suc k) = record { sound = next_sound k (pattern_is_exact k); back = next_back k (pattern_is_exact k) }
