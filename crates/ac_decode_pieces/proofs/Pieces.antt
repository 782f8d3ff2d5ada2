-- The pieces that have no type in them are read exactly.
use Rattle.std.proofs.Common.{◌≡◌, refl, sym, ap, ℕ, ◌≤◌, Bool, true, List, [], ◌∷◌, ◌++◌, length, Some}
use Rattle.std.specs.Prelude.{nat_le}
use Rattle.std.proofs.lemmas.Bool.Decides.{nat_tests}
use native.Mathlib.Omega.{arith}
use Rattle.ac_types.proofs.FirstLaws.{none≢some, some_eq}
use Rattle.ac_types.proofs.Same.{both_true, and_true}
use Rattle.ac_types.specs.Limits.{longest_string}
use Rattle.ac_types.specs.Words.{is_word}
use Rattle.ac_types.specs.Types.{Bytes}
use Rattle.ac_types.specs.Sigs.{Atom, Number, MyName, Range, One, Between, UpTo, From, Constraint, Ranges, Exact, Resolve, StaticLink, HereAlready, Uri}
use Rattle.ac_terms.specs.Spelling.{byte, one_written, two_written, four_written, eight_written, truth, word, str, listed, atom_bytes, range_bytes, constraint_bytes, resolve_bytes}
use Rattle.ac_terms.specs.Bounds.{is_lower, is_upper, is_name, is_two, is_four, is_integer, is_width, fits_atom, fits_range, fits_constraint, fits_resolve}
use Rattle.ac_terms.specs.PacketReading.{give, one, two_parts_read, nothing, read_byte, read_two, read_four, read_eight, read_truth, read_word, read_str, read_name, bytes_read}
use Rattle.ac_terms.proofs.Back.{Back, back_one, back_two, back_byte, back_two_bytes, back_four_bytes, back_eight_bytes, back_truth, back_word, back_name, back_after, back_cut}
use Rattle.ac_terms.proofs.TestLaws.{le_true, le_is}
use Rattle.ac_terms.proofs.Digits.{one_is}
use Rattle.ac_decode_pieces.specs.ExactReading.{in_limits, begins_low, begins_high, has_ranges, a_ranges, exact_two, exact_four, exact_eight, exact_truth, exact_name, exact_word, exact_lower, exact_upper, exact_text, exact_width, exact_count, exact_long_count, exact_atom, exact_version, exact_range, exact_ranges, exact_constraint, exact_resolve, exact_resolves}
use Rattle.ac_decode_pieces.proofs.Exact.{Took, IsExact, exact_exactly, exact_passing, exact_as, exact_spelled, AllOf, each_passes, of_all, exact_list, exact_two_parts}
use Rattle.ac_decode_pieces.proofs.Tables.{table_sound, sound_nothing, sound_give, sound_one, sound_two}

abbrev pub Is : {A : Type 0} → (A → Bool) → A → Type 0
Is test a = test a ≡ true

pub two_is_exact : IsExact exact_two (Is is_two) two_written
unfolding exact_two
two_is_exact = exact_exactly is_two two_written read_two back_two_bytes

pub four_is_exact : IsExact exact_four (Is is_four) four_written
unfolding exact_four
four_is_exact = exact_exactly is_four four_written read_four back_four_bytes

pub eight_is_exact : IsExact exact_eight (Is is_integer) eight_written
unfolding exact_eight
eight_is_exact = exact_exactly is_integer eight_written read_eight back_eight_bytes

pub truth_is_exact : IsExact exact_truth (λ b. Unit {0}) truth
unfolding exact_truth
truth_is_exact = exact_as (λ b. Unit {0}) (λ b e. tt) (λ b u. refl) (exact_exactly (λ b. true) truth read_truth (λ b e. back_truth b))

pub name_is_exact : IsExact exact_name (Is is_name) (λ n. n)
unfolding exact_name
name_is_exact = exact_exactly is_name (λ n. n) read_name back_name

pub word_is_exact : IsExact exact_word (Is is_word) word
unfolding exact_word
word_is_exact = exact_exactly is_word word read_word (λ w e. back_word w)

pub lower_is_exact : IsExact exact_lower (Is is_lower) word
unfolding exact_lower
lower_is_exact = exact_as (Is is_lower) (λ w p. and_true p.0 p.1) (λ w e. both_true (is_word w) (begins_low w) e) (exact_passing begins_low word_is_exact)

pub upper_is_exact : IsExact exact_upper (Is is_upper) word
unfolding exact_upper
upper_is_exact = exact_as (Is is_upper) (λ w p. and_true p.0 p.1) (λ w e. both_true (is_word w) (begins_high w) e) (exact_passing begins_high word_is_exact)

short_length : (n most : ℕ) → most ≤ longest_string → nat_le n most ≡ true → is_four n ≡ true
short_length n most low e = grind (arith, nat_tests)

pub back_text_of : (s : Bytes) → is_four (length s) ≡ true → Back read_str (str s) s
back_text_of s e = back_after bytes_read (back_four_bytes (length s) e) (back_cut s)

pub text_is_exact : (most : ℕ) → most ≤ longest_string → IsExact (exact_text most) (λ s. nat_le (length s) most ≡ true) str
unfolding exact_text
text_is_exact most low = exact_exactly (λ s. nat_le (length s) most) str read_str (λ s e. back_text_of s (short_length (length s) most low e))

pub byte_is_exact : IsExact read_byte (λ b. Unit {0}) byte
byte_is_exact = record { sound = taken; back = λ b u. back_byte b }
  where
    taken : (bs : Bytes) (b : ℕ) (rest : Bytes) → read_byte bs ≡ Some (b, rest) → Took (λ c. Unit {0}) byte bs b rest
    taken [] b rest e = absurd (none≢some e)
    taken (c ∷ bs) b rest e =
        let q = some_eq e in
        record { fits = tt; parts = ap (λ (x : ℕ × Bytes). x.0 ∷ x.1) q }

-- a count that a byte holds is that byte
width_byte : (n : ℕ) → is_width n ≡ true → byte n ≡ one_written n
width_byte n e = let h = le_true n 16 (both_true _ _ e).1 in sym (one_is n (omega arith))

pub width_is_exact : IsExact exact_width (Is is_width) one_written
unfolding exact_width
width_is_exact = exact_spelled width_byte (exact_as (Is is_width) (λ n p. p.1) (λ n e. (tt, e)) (exact_passing is_width byte_is_exact))

count_byte : (least most n : ℕ) → most ≤ 255 → in_limits least most n ≡ true → byte n ≡ one_written n
count_byte least most n low e = let h = le_true n most (both_true _ _ e).1 in sym (one_is n (omega arith))

pub count_is_exact : (least most : ℕ) → most ≤ 255 → IsExact (exact_count least most) (Is (in_limits least most)) one_written
unfolding exact_count
count_is_exact least most low =
    exact_spelled (λ n e. count_byte least most n low e) (exact_as (Is (in_limits least most)) (λ n p. p.1) (λ n e. (tt, e)) (exact_passing (in_limits least most) byte_is_exact))

pub count_two : (least most n : ℕ) → most ≤ 65535 → in_limits least most n ≡ true → is_two n ≡ true
count_two least most n low e = grind (arith, nat_tests)

pub long_count_is_exact : (least most : ℕ) → most ≤ 65535 → IsExact (exact_long_count least most) (Is (in_limits least most)) two_written
unfolding exact_long_count
long_count_is_exact least most low =
    exact_as (Is (in_limits least most)) (λ n p. p.1) (λ n e. (count_two least most n low e, e)) (exact_passing (in_limits least most) two_is_exact)

-- versions, constraints and resolvespecs
pub atom_is_exact : IsExact exact_atom (Is fits_atom) atom_bytes
unfolding exact_atom
atom_is_exact = record {
  sound = table_sound (Is fits_atom) atom_bytes (nothing ∷ one Number exact_four ∷ give MyName ∷ [])
      (sound_nothing _ _ 0, (sound_one _ _ 1 Number four_is_exact (λ n e. e) (λ n. refl), (sound_give _ _ 2 MyName refl refl, tt)));
  back = again;
}
  where
    again : (a : Atom) → fits_atom a ≡ true → Back exact_atom (atom_bytes a) a
    again (Number n) w = record { reads = (back_one Number (four_is_exact.back n w)).reads }
    again MyName w = record { reads = λ r. refl }

pub version_is_exact : IsExact exact_version (λ xs. (in_limits 1 8 (length xs) ≡ true) × AllOf (Is fits_atom) xs) (listed one_written atom_bytes)
unfolding exact_version
version_is_exact = exact_list atom_is_exact (count_is_exact 1 8 (omega arith))

pub range_is_exact : IsExact exact_range (Is fits_range) range_bytes
unfolding exact_range
range_is_exact = record {
  sound = table_sound (Is fits_range) range_bytes (nothing ∷ one One exact_four ∷ two_parts_read Between exact_four exact_four ∷ one UpTo exact_four ∷ one From exact_four ∷ []) (
    sound_nothing _ _ 0,
    (
      sound_one _ _ 1 One four_is_exact (λ n e. e) (λ n. refl),
      (
        sound_two _ _ 2 Between four_is_exact four_is_exact (λ n m e f. and_true e f) (λ n m. refl),
        (sound_one _ _ 3 UpTo four_is_exact (λ n e. e) (λ n. refl), (sound_one _ _ 4 From four_is_exact (λ n e. e) (λ n. refl), tt)),
      ),
    ),
  );
  back = again;
}
  where
    again : (a : Range) → fits_range a ≡ true → Back exact_range (range_bytes a) a
    again (One n) w = record { reads = (back_one One (four_is_exact.back n w)).reads }
    again (Between n m) w = record { reads = (back_two Between (four_is_exact.back n (both_true _ _ w).0) (four_is_exact.back m (both_true _ _ w).1)).reads }
    again (UpTo n) w = record { reads = (back_one UpTo (four_is_exact.back n w)).reads }
    again (From n) w = record { reads = (back_one From (four_is_exact.back n w)).reads }

ranges_is_exact : IsExact exact_ranges (λ p. (((in_limits 0 8 (length p.0) ≡ true) × AllOf (Is fits_range) p.0) × Unit {0}) × (has_ranges p ≡ true)) (λ p. listed one_written range_bytes p.0 ++ truth p.1)
unfolding exact_ranges
ranges_is_exact =
    exact_passing has_ranges
    (exact_two_parts (λ (rs : List Range) (star : Bool). (rs, star)) (λ p. p.0) (λ p. p.1) (λ p. refl) (λ rs star. refl) (λ rs star. refl) (exact_list range_is_exact (count_is_exact 0 8 (omega arith))) truth_is_exact)

constraint_fits : (p : List Range × Bool) → (((in_limits 0 8 (length p.0) ≡ true) × AllOf (Is fits_range) p.0) × Unit {0}) × (has_ranges p ≡ true) → fits_constraint (Ranges p.0 p.1) ≡ true
constraint_fits p a = and_true (and_true (of_all fits_range p.0 a.0.0.1) (both_true _ _ a.0.0.0).1) a.1

constraint_parts : (rs : List Range) (star : Bool) → fits_constraint (Ranges rs star) ≡ true → (((in_limits 0 8 (length rs) ≡ true) × AllOf (Is fits_range) rs) × Unit {0}) × (has_ranges (rs, star) ≡ true)
constraint_parts rs star w =
    let a = both_true _ _ w in
    let b = both_true _ _ a.0 in
    (((and_true {a = nat_le 0 (length rs)} (le_is 0 (length rs) (omega arith)) b.1, each_passes fits_range rs b.0), tt), a.1)

pub constraint_is_exact : IsExact exact_constraint (Is fits_constraint) constraint_bytes
unfolding exact_constraint
constraint_is_exact = record {
  sound = table_sound (Is fits_constraint) constraint_bytes (nothing ∷ one a_ranges exact_ranges ∷ one Exact exact_name ∷ [])
      (sound_nothing _ _ 0, (sound_one _ _ 1 a_ranges ranges_is_exact constraint_fits (λ p. refl), (sound_one _ _ 2 Exact name_is_exact (λ n e. e) (λ n. refl), tt)));
  back = again;
}
  where
    again : (c : Constraint) → fits_constraint c ≡ true → Back exact_constraint (constraint_bytes c) c
    again (Ranges rs star) w = record { reads = (back_one a_ranges (ranges_is_exact.back (rs, star) (constraint_parts rs star w))).reads }
    again (Exact n) w = record { reads = (back_one Exact (name_is_exact.back n w)).reads }

pub resolve_is_exact : IsExact exact_resolve (Is fits_resolve) resolve_bytes
unfolding exact_resolve
resolve_is_exact = record {
  sound = table_sound (Is fits_resolve) resolve_bytes (nothing ∷ give StaticLink ∷ give HereAlready ∷ one Uri (exact_text 1024) ∷ [])
      (sound_nothing _ _ 0, (sound_give _ _ 1 StaticLink refl refl, (sound_give _ _ 2 HereAlready refl refl, (sound_one _ _ 3 Uri (text_is_exact 1024 (omega arith)) (λ u e. e) (λ u. refl), tt))));
  back = again;
}
  where
    again : (a : Resolve) → fits_resolve a ≡ true → Back exact_resolve (resolve_bytes a) a
    again StaticLink w = record { reads = λ r. refl }
    again HereAlready w = record { reads = λ r. refl }
    again (Uri u) w = record { reads = (back_one Uri ((text_is_exact 1024 (omega arith)).back u w)).reads }

pub resolves_is_exact : IsExact exact_resolves (λ xs. (in_limits 1 16 (length xs) ≡ true) × AllOf (Is fits_resolve) xs) (listed one_written resolve_bytes)
unfolding exact_resolves
resolves_is_exact = exact_list resolve_is_exact (count_is_exact 1 16 (omega arith))
