-- What is taken from the front of bytes is read exactly, and where too few are left nothing is read.
use Rattle.std.proofs.Common.{◌≡◌, refl, sym, ap, subst, ◌∙◌, ℕ, ℤ, ◌+◌, ◌<◌, ◌≤◌, ◌^◌, Bool, true, false, [], ◌∷◌, ◌++◌, length, Some, None, append_assoc, length-append}
use Rattle.std.specs.Prelude.{nat_le, FitsSigned, pos, negsuc}
use Rattle.std.specs.Int.{w64}
use Rattle.std.proofs.lemmas.Bool.Decides.{nat_tests}
use native.Mathlib.Omega.{arith}
use mathlib.Core.Bool.{true≢false}
use Rattle.ac_types.proofs.FirstLaws.{none≢some, some_eq}
use Rattle.ac_types.specs.Words.{is_word}
use Rattle.ac_types.specs.Types.{Bytes}
use Rattle.ac_terms.specs.Spelling.{two_written, four_written, eight_written, truth, word, str}
use Rattle.ac_terms.specs.Bounds.{is_two, is_four, is_integer, is_name}
use Rattle.ac_terms.specs.PacketReading.{read_byte, read_two, read_four, read_eight, read_truth, read_name, read_word, read_str}
use Rattle.ac_terms.proofs.Back.{back_two_bytes, back_four_bytes, back_eight_bytes, back_truth, back_name, back_word, none_begins}
use Rattle.ac_terms.proofs.TestLaws.{lt_is, le_is, le_true}
use Rattle.ac_decode_pieces.specs.ExactReading.{exactly, exact_two, exact_four, exact_eight, exact_truth, exact_name, exact_word, exact_text}
use Rattle.ac_decode_pieces.specs.declared.fault.PieceFault.{PieceFault}
use Rattle.ac_decode_pieces.specs.declared.fault.PieceFault.TheVariants as fault
use Rattle.ac_decode_pieces.specs.Readers.{NoneRead}
use Rattle.ac_decode_pieces.proofs.Exact.{exactly_some, exactly_none}
use Rattle.ac_decode_pieces.proofs.Pieces.{back_text_of}

two_long : (n : ℕ) (rest : Bytes) → 2 ≤ length (two_written n ++ rest)
two_long n rest = omega (arith, length-append (two_written n) rest)

pub two_taken : (bs : Bytes) (n : ℕ) (rest : Bytes) → n < 2 ^ 16 → bs ≡ two_written n ++ rest → exact_two bs ≡ Some (n, rest)
unfolding exact_two
two_taken bs n rest low e = let t = lt_is n (2 ^ 16) low in exactly_some is_two two_written read_two bs n rest t (back_two_bytes n t) e

pub two_short : (bs : Bytes) → length bs < 2 → exact_two bs ≡ None
unfolding exact_two
two_short bs few = exactly_none is_two two_written read_two bs (λ n rest t e. let l : 2 ≤ length bs = subst (λ x. 2 ≤ length x) (sym e) (two_long n rest) in omega arith)

four_long : (n : ℕ) (rest : Bytes) → 4 ≤ length (four_written n ++ rest)
four_long n rest = omega (arith, length-append (four_written n) rest)

pub four_taken : (bs : Bytes) (n : ℕ) (rest : Bytes) → n < 2 ^ 32 → bs ≡ four_written n ++ rest → exact_four bs ≡ Some (n, rest)
unfolding exact_four
four_taken bs n rest low e = let t = lt_is n (2 ^ 32) low in exactly_some is_four four_written read_four bs n rest t (back_four_bytes n t) e

pub four_short : (bs : Bytes) → length bs < 4 → exact_four bs ≡ None
unfolding exact_four
four_short bs few = exactly_none is_four four_written read_four bs (λ n rest t e. let l : 4 ≤ length bs = subst (λ x. 4 ≤ length x) (sym e) (four_long n rest) in omega arith)

integer : (z : ℤ) → FitsSigned w64 z → is_integer z ≡ true
integer (pos n) f = let h : n < 2 ^ 63 = f.sfits in lt_is n (2 ^ 63) h
integer (negsuc n) f = let h : n < 2 ^ 63 = f.sfits in lt_is n (2 ^ 63) h

eight_long : (z : ℤ) (rest : Bytes) → 8 ≤ length (eight_written z ++ rest)
eight_long z rest = omega (arith, length-append (eight_written z) rest)

pub eight_taken : (bs : Bytes) (z : ℤ) (rest : Bytes) → FitsSigned w64 z → bs ≡ eight_written z ++ rest → exact_eight bs ≡ Some (z, rest)
unfolding exact_eight
eight_taken bs z rest f e = let t = integer z f in exactly_some is_integer eight_written read_eight bs z rest t (back_eight_bytes z t) e

pub eight_short : (bs : Bytes) → length bs < 8 → exact_eight bs ≡ None
unfolding exact_eight
eight_short bs few = exactly_none is_integer eight_written read_eight bs (λ z rest t e. let l : 8 ≤ length bs = subst (λ x. 8 ≤ length x) (sym e) (eight_long z rest) in omega arith)

pub name_taken : (bs n rest : Bytes) → length n ≡ 32 → bs ≡ n ++ rest → exact_name bs ≡ Some (n, rest)
unfolding exact_name
name_taken bs n rest long e =
    let t : is_name n ≡ true = grind (arith, nat_tests) in
    exactly_some is_name (λ x. x) read_name bs n rest t (back_name n t) e

pub name_short : (bs : Bytes) → length bs < 32 → exact_name bs ≡ None
unfolding exact_name
name_short bs few =
    exactly_none is_name (λ x. x) read_name bs (λ n rest t e.
    let l : length n ≡ 32 = grind (arith, nat_tests) in
    let m : length bs ≡ length n + length rest = ap length e ∙ length-append n rest in
    omega arith)

-- truth values
pub truth_read : (b : Bool) (rest : Bytes) → exact_truth (truth b ++ rest) ≡ Some (b, rest)
unfolding exact_truth
truth_read b rest = exactly_some (λ x. true) truth read_truth (truth b ++ rest) b rest refl (back_truth b) refl

-- the byte in front
pub byte_front : (bs : Bytes) (n : ℕ) (rest : Bytes) → read_byte bs ≡ Some (n, rest) → bs ≡ n ∷ rest
byte_front [] n rest e = absurd (none≢some e)
byte_front (x ∷ xs) n rest e = ap (λ (p : ℕ × Bytes). p.0 ∷ p.1) (some_eq e)

pub no_byte : (bs : Bytes) → read_byte bs ≡ None → bs ≡ []
no_byte [] e = refl
no_byte (x ∷ xs) e = absurd (none≢some (sym e))

pub truth_taken : (bs : Bytes) (n : ℕ) (b : Bool) (rest : Bytes) → read_byte bs ≡ Some (n, rest) → n ∷ rest ≡ truth b ++ rest → exact_truth bs ≡ Some (b, rest)
truth_taken bs n b rest e is = ap exact_truth (byte_front bs n rest e ∙ is) ∙ truth_read b rest

begins_so : (b : Bool) (n : ℕ) (xs ys : Bytes) → n ∷ xs ≡ truth b ++ ys → n ≤ 1
begins_so true n xs ys e = let h : n ≡ 1 = ap (λ (x : Bytes). elim x [ [] ↦ 1 | a ∷ as' ↦ a ]) e in omega arith
begins_so false n xs ys e = let h : n ≡ 0 = ap (λ (x : Bytes). elim x [ [] ↦ 0 | a ∷ as' ↦ a ]) e in omega arith

pub other_truth : (bs : Bytes) (n : ℕ) (rest : Bytes) → read_byte bs ≡ Some (n, rest) → 1 < n → exact_truth bs ≡ None
unfolding exact_truth
other_truth bs n rest e high =
    exactly_none (λ x. true) truth read_truth bs (λ b later t is. absurd (let l = begins_so b n rest later (sym (byte_front bs n rest e) ∙ is) in omega arith))

pub no_truth : (bs : Bytes) → read_byte bs ≡ None → exact_truth bs ≡ None
unfolding exact_truth
no_truth bs e = ap (exactly (λ x. true) truth read_truth) (no_byte bs e)

pub truth_refused : (bs : Bytes) (e : PieceFault) → NoneRead e (read_byte bs) → NoneRead e (exact_truth bs)
truth_refused bs (fault.Misfit at) r = no_truth bs r
truth_refused bs fault.Short r = no_truth bs r
truth_refused bs fault.Memory r = tt

-- identifiers and strings
word_lengths : (n : ℕ) (xs w rest : Bytes) → n ∷ xs ≡ word w ++ rest → (n ≡ length w) × (xs ≡ w ++ rest)
word_lengths n xs w rest e = (ap (λ (x : Bytes). elim x [ [] ↦ 0 | a ∷ as' ↦ a ]) e, ap (λ (x : Bytes). elim x [ [] ↦ [] | a ∷ as' ↦ as' ]) e)

pub no_length : (bs : Bytes) → length bs < 1 → exact_word bs ≡ None
unfolding exact_word
no_length [] few = refl
no_length (x ∷ xs) few = absurd (omega arith)

pub word_short : (bs : Bytes) (n : ℕ) (mid : Bytes) → bs ≡ n ∷ mid → length mid < n → exact_word bs ≡ None
unfolding exact_word
word_short bs n mid front few =
    exactly_none is_word word read_word bs (λ w rest t e. absurd (
    let p = word_lengths n mid w rest (sym front ∙ e) in
    let l : length mid ≡ length w + length rest = ap length p.1 ∙ length-append w rest in
    let m = p.0 in omega arith))

same_front : (xs ys a b : Bytes) → length xs ≡ length ys → xs ++ a ≡ ys ++ b → xs ≡ ys
same_front [] [] a b l e = refl
same_front [] (y ∷ ys) a b l e = absurd (omega arith)
same_front (x ∷ xs) [] a b l e = absurd (omega arith)
same_front (x ∷ xs) (y ∷ ys) a b l e =
    let one : x ≡ y = ap (λ (z : Bytes). elim z [ [] ↦ x | c ∷ cs ↦ c ]) e in
    let rest : xs ++ a ≡ ys ++ b = ap (λ (z : Bytes). elim z [ [] ↦ [] | c ∷ cs ↦ cs ]) e in
    ap (λ c. c ∷ xs) one ∙ ap (λ zs. y ∷ zs) (same_front xs ys a b (omega arith) rest)

pub no_word : (bs : Bytes) (n : ℕ) (mid w rest : Bytes) → bs ≡ n ∷ mid → mid ≡ w ++ rest → length w ≡ n → is_word w ≡ false → exact_word bs ≡ None
unfolding exact_word
no_word bs n mid w rest front parts len not_one =
    exactly_none is_word word read_word bs (λ v later t e.
    let p = word_lengths n mid v later (sym front ∙ e) in
    let same : w ≡ v = same_front w v rest later (len ∙ p.0) (sym parts ∙ p.1) in
    absurd (true≢false (sym t ∙ sym (ap is_word same) ∙ not_one)))

pub word_taken : (bs : Bytes) (n : ℕ) (mid w rest : Bytes) → bs ≡ n ∷ mid → mid ≡ w ++ rest → length w ≡ n → is_word w ≡ true → exact_word bs ≡ Some (w, rest)
unfolding exact_word
word_taken bs n mid w rest front parts len t =
    exactly_some is_word word read_word bs w rest t (back_word w) (front ∙ ap (λ x. x ∷ mid) (sym len) ∙ ap (λ x. length w ∷ x) parts)

module _ (most : ℕ) (low : most < 2 ^ 32) where
  pub no_long_length : (bs : Bytes) → length bs < 4 → exact_text most bs ≡ None
  unfolding exact_text
  no_long_length bs few =
      exactly_none (λ s. nat_le (length s) most) str read_str bs (λ s rest t e. absurd (
      let l : 4 ≤ length bs = subst (λ x. 4 ≤ length x) (sym (e ∙ append_assoc (four_written (length s)) s rest)) (four_long (length s) (s ++ rest)) in omega arith))

  text_lengths : (n : ℕ) (mid s rest : Bytes) → n < 2 ^ 32 → nat_le (length s) most ≡ true → four_written n ++ mid ≡ str s ++ rest → (n ≡ length s) × (mid ≡ s ++ rest)
  text_lengths n mid s rest fits t e =
      let l : length s < 2 ^ 32 = let h = le_true (length s) most t in omega arith in
      none_begins read_four (back_four_bytes n (lt_is n (2 ^ 32) fits)) (back_four_bytes (length s) (lt_is (length s) (2 ^ 32) l)) mid (s ++ rest) (e ∙ append_assoc (four_written (length s)) s rest)

  pub text_long : (bs : Bytes) (n : ℕ) (mid : Bytes) → n < 2 ^ 32 → bs ≡ four_written n ++ mid → most < n → exact_text most bs ≡ None
  unfolding exact_text
  text_long bs n mid fits front high =
      exactly_none (λ s. nat_le (length s) most) str read_str bs (λ s rest t e. absurd (
      let p = text_lengths n mid s rest fits t (sym front ∙ e) in
      let h = le_true (length s) most t in
      let m = p.0 in omega arith))

  pub text_short : (bs : Bytes) (n : ℕ) (mid : Bytes) → n < 2 ^ 32 → bs ≡ four_written n ++ mid → length mid < n → exact_text most bs ≡ None
  unfolding exact_text
  text_short bs n mid fits front few =
      exactly_none (λ s. nat_le (length s) most) str read_str bs (λ s rest t e. absurd (
      let p = text_lengths n mid s rest fits t (sym front ∙ e) in
      let l : length mid ≡ length s + length rest = ap length p.1 ∙ length-append s rest in
      let m = p.0 in omega arith))

  pub text_taken : (bs : Bytes) (n : ℕ) (mid s rest : Bytes) → n < 2 ^ 32 → bs ≡ four_written n ++ mid → n ≤ most → mid ≡ s ++ rest → length s ≡ n → exact_text most bs ≡ Some (s, rest)
  unfolding exact_text
  text_taken bs n mid s rest fits front low parts len =
      let t : nat_le (length s) most ≡ true = le_is (length s) most (omega arith) in
      exactly_some (λ x. nat_le (length x) most) str read_str bs s rest t (back_text_of s (lt_is (length s) (2 ^ 32) (omega arith)))
      (front ∙ ap (λ x. four_written n ++ x) parts ∙ sym (append_assoc (four_written n) s rest) ∙ ap (λ k. (four_written k ++ s) ++ rest) (sym len))
