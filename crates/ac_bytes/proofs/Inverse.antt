-- A number and its bytes say the same, at any number of bytes.
use Rattle.std.proofs.Common.{◌≡◌, refl, sym, ap, ◌∙◌, ℕ, zero, suc, ◌+◌, ◌*◌, ◌^◌, ◌<◌, ◌≤◌, ◌/◌, [], ◌∷◌, ◌++◌, length, take, drop, arith, inl, inr}
use Rattle.std.specs.Prelude.{ℤ, pos, negsuc, FitsSigned}
use Rattle.std.specs.Int.{w64, byte_at, cast_signed, cast_unsigned}
use Rattle.std.proofs.Math.Nat.{mod-lt, mul-le-mul_right}
use Rattle.std.proofs.lemmas.Bool.{cases_lt}
use Rattle.std.proofs.lemmas.Int.{to_z-of_z}
use Rattle.std.proofs.lemmas.List.{append-nil, length-take-le, take-append-drop, take_at, drop_at}
use Rattle.byteorder.specs.Endian.{big_from}
use Rattle.byteorder.specs.Numbers.{big_from-cons, big_from-lt, big_number-reads_back, length-bytes_high_first}
use Rattle.ac_types.specs.Types.{Bytes}
use Rattle.ac_bytes.specs.Cursors.{Unread, TakesBytes}
use Rattle.ac_bytes.specs.Numbers.{AreBytes, number, big_endian, eight}

-- the number of bytes is the one that byteorder reads from them
pub number-big_from : (bs : Bytes) → number bs ≡ big_from 0 (length bs) bs
number-big_from [] = refl
number-big_from (b ∷ bs) = ap (λ r. b * 256 ^ length bs + r) (number-big_from bs ∙ sym (big_from-cons 0 (length bs) b bs))

rest_are : (b : ℕ) (bs : Bytes) → AreBytes (b ∷ bs) → AreBytes bs
rest_are b bs are i = are (suc i)

-- it has that many bytes
pub number_below : (bs : Bytes) → AreBytes bs → number bs < 256 ^ length bs
number_below bs are = rw (number-big_from bs) (big_from-lt 0 (length bs) bs are)

-- a number is read back from its bytes
pub number_again : (k n : ℕ) → n < 256 ^ k → number (big_endian k n) ≡ n
number_again k n fits =
    let len = length-bytes_high_first k n in
    number-big_from (big_endian k n)
    ∙ ap (λ j. big_from 0 j (big_endian k n)) len
    ∙ ap (big_from 0 k) (sym (append-nil (big_endian k n)))
    ∙ big_number-reads_back k n [] fits

-- the bytes of a number are bytes
byte_at_below : (i n : ℕ) → byte_at i n < 256
byte_at_below zero n = mod-lt n (omega arith)
byte_at_below (suc i) n = mod-lt (n / 256 ^ suc i) (omega arith)

pub big_endian_bytes : (k n : ℕ) → AreBytes (big_endian k n)
big_endian_bytes zero n i = omega arith
big_endian_bytes (suc k) n zero = byte_at_below k n
big_endian_bytes (suc k) n (suc i) = big_endian_bytes k n i

-- a number in the places above others says what stands there
apart : (b c p x y : ℕ) → x < p → y < p → b * p + x ≡ c * p + y → b ≤ c
apart b c p x y low small e = elim (cases_lt c b) [
  | inr le ↦ le
  | inl lt ↦
      let above : suc c * p ≤ b * p = mul-le-mul_right p lt in
      absurd (omega (arith, above))
]

-- bytes that write one number are the same
pub same_bytes : (bs cs : Bytes) → AreBytes bs → AreBytes cs → length bs ≡ length cs → number bs ≡ number cs → bs ≡ cs
same_bytes [] [] are these len e = refl
same_bytes [] (c ∷ cs) are these len e = absurd (omega (arith, len))
same_bytes (b ∷ bs) [] are these len e = absurd (omega (arith, len))
same_bytes (b ∷ bs) (c ∷ cs) are these len e =
    let same : length bs ≡ length cs = omega (arith, len) in
    let low : number bs < 256 ^ length cs = rw (← same) (number_below bs (rest_are b bs are)) in
    let small = number_below cs (rest_are c cs these) in
    let whole : b * 256 ^ length cs + number bs ≡ c * 256 ^ length cs + number cs = ap (λ j. b * 256 ^ j + number bs) (sym same) ∙ e in
    let le = apart b c (256 ^ length cs) (number bs) (number cs) low small whole in
    let ge = apart c b (256 ^ length cs) (number cs) (number bs) small low (sym whole) in
    let first : b ≡ c = omega (arith, le, ge) in
    let others : number bs ≡ number cs = omega (arith, whole, ap (λ h. h * 256 ^ length cs) first) in
    ap (λ h. h ∷ bs) first ∙ ap (λ t. c ∷ t) (same_bytes bs cs (rest_are b bs are) (rest_are c cs these) same others)

-- bytes are those of the number that they write
pub bytes_again : (bs : Bytes) → AreBytes bs → big_endian (length bs) (number bs) ≡ bs
bytes_again bs are =
    same_bytes (big_endian (length bs) (number bs)) bs (big_endian_bytes (length bs) (number bs)) are (length-bytes_high_first (length bs) (number bs)) (number_again (length bs) (number bs) (number_below bs are))

-- that many bytes in front, and what is behind them
pub front_taken : (k : ℕ) (bs front rest : Bytes) → k ≤ length bs → front ≡ take k bs → rest ≡ drop k bs → (length front ≡ k) × (bs ≡ front ++ rest)
front_taken k bs front rest long f r = (ap length f ∙ length-take-le k bs long, sym (ap (λ x. x ++ rest) f ∙ ap (λ y. take k bs ++ y) r ∙ take-append-drop k bs))

-- bytes that were put are the only ones, of so many, that are taken again
pub front_taken_again : (bs cs rest : Bytes) (old new : Unread) → length cs ≡ length bs → old.left ≡ bs ++ rest → TakesBytes old cs new → (cs ≡ bs) × (new.left ≡ rest)
front_taken_again bs cs rest old new len put taken =
    let both : cs ++ new.left ≡ bs ++ rest = sym taken.0 ∙ put in (
      sym (take_at cs new.left (length bs) len) ∙ ap (take (length bs)) both ∙ take_at bs rest (length bs) refl,
      sym (drop_at cs new.left (length bs) len) ∙ ap (drop (length bs)) both ∙ drop_at bs rest (length bs) refl,
    )

-- and so a number
pub taken_again : (k n m : ℕ) (rest : Bytes) (old new : Unread) → n < 256 ^ k → m < 256 ^ k → old.left ≡ big_endian k n ++ rest → TakesBytes old (big_endian k m) new → (m ≡ n) × (new.left ≡ rest)
taken_again k n m rest old new fits small put taken =
    let len = length-bytes_high_first k m ∙ sym (length-bytes_high_first k n) in
    let p = front_taken_again (big_endian k n) (big_endian k m) rest old new len put taken in
    (sym (number_again k m small) ∙ ap number p.0 ∙ number_again k n fits, p.1)

-- and a signed one
eight_below : (z : ℤ) → FitsSigned w64 z → cast_unsigned w64 z < 256 ^ 8
eight_below (pos n) fits = let h : n < 2 ^ 63 = fits.sfits in omega arith
eight_below (negsuc n) fits = let h : n < 2 ^ 63 = fits.sfits in omega arith

pub signed_taken_again : (z y : ℤ) (rest : Bytes) (old new : Unread) → FitsSigned w64 z → FitsSigned w64 y → old.left ≡ eight z ++ rest → TakesBytes old (eight y) new → (y ≡ z) × (new.left ≡ rest)
signed_taken_again z y rest old new fits small put taken =
    let p = taken_again 8 (cast_unsigned w64 z) (cast_unsigned w64 y) rest old new (eight_below z fits) (eight_below y small) put taken in
    (sym (to_z-of_z w64 y small) ∙ ap (cast_signed w64) p.0 ∙ to_z-of_z w64 z fits, p.1)
