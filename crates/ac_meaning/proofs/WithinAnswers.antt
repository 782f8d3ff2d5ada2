-- What primitives answer of constants within the bounds is within them.
use Rattle.std.proofs.Common.{◌≡◌, refl, ap, ◌∙◌, subst, ℕ, zero, suc, ◌+◌, ◌<◌, ◌≤◌, ◌^◌, Bool, true, false, nat_lt, List, [], ◌∷◌, ◌++◌, length, take, drop, Option, Some, None, length-append}
use Rattle.std.specs.Prelude.{FitsSigned, ℤ, pos, negsuc, cond, nat_le, int_rem, int_div, unsigned_abs, slice_get, codes, ◌+ℤ◌, ◌-ℤ◌, ◌*ℤ◌, neg_ℤ}
use Rattle.std.specs.Int.{int_wrap, w32, w64, from_be_bytes}
use Rattle.std.specs.Fmt.{signed_decimal}
use Rattle.std.specs.Option.{option_map_or}
use Rattle.std.proofs.lemmas.Int.{SFits-int_wrap, rem_below}
use Rattle.std.proofs.lemmas.Fmt.{length_signed_le}
use Rattle.std.proofs.lemmas.Bool.Decides.{nat_tests}
use mathlib.Core.Bool.{true≢false}
use native.Mathlib.Omega.{arith}
use Rattle.ac_types.proofs.FirstLaws.{none≢some, some_eq}
use Rattle.ac_types.specs.Types.{Bytes, TStr}
use Rattle.ac_terms.specs.Terms.{Value, VInt, VBool, VStr, VUnit, VTuple, Values, no_values, value}
use Rattle.ac_terms.specs.PrimitiveTypes.{is_exception}
use Rattle.ac_terms.specs.Bounds.{is_string, is_integer}
use Rattle.ac_types.specs.Limits.{longest_string, longest_frame}
use Rattle.ac_code.specs.Constants.{Const, CInt, CBool, CStr, CUnit, CPart, PrimitiveAnswer, Yields, Prints, Sends, Receives, Fails, NoSense, Meaning, One, Two, meanings, meaning, primitive_answer, sum, difference, product, quotient, remainder, negation, equal, less, concatenated, opposite, printed_int, printed_string, sent_string, received_string, length_answer, part_of_string, int_as_string, bytes_between, same_int, raise_invalid_argument, raise_division_by_zero}
use Rattle.ac_meaning.specs.Writes.{Print, Send}
use Rattle.ac_meaning.specs.Worlds.{Exception, World, end_of_file_exn, bad_frame}
use Rattle.ac_outside.specs.Frames.{Frame, Whole, Bad, AtEnd, next_frame}
use Rattle.ac_meaning.specs.PrimitiveSteps.{const_of_parts, const_of, all_there, consts_of, spelled, answer_at, primitive, answered, sending, receiving}
use Rattle.ac_meaning.specs.Packing.{raising}
use Rattle.ac_meaning.proofs.Within.{Within, ValueWithin, ValuesWithin, RaisedWithin, WritesWithin}
use Rattle.ac_meaning.proofs.WithinLaws.{Good, one_more}

abbrev ConstWithin : Const → Type 0
ConstWithin (CInt n) = is_integer n ≡ true
ConstWithin (CBool b) = Unit {0}
ConstWithin (CStr s) = is_string s ≡ true
ConstWithin CUnit = Unit {0}
ConstWithin (CPart s i n) = (is_string s ≡ true) × (is_integer i ≡ true) × (is_integer n ≡ true)

abbrev ConstsWithin : List Const → Type 0
ConstsWithin [] = Unit {0}
ConstsWithin (c ∷ cs) = ConstWithin c × ConstsWithin cs

abbrev AnswerWithin : PrimitiveAnswer → Type 0
AnswerWithin (Yields c) = ConstWithin c
AnswerWithin (Prints s) = is_string s ≡ true
AnswerWithin (Sends s) = is_string s ≡ true
AnswerWithin (Fails k s) = (is_exception k s ≡ true) × (option_map_or is_string s true ≡ true)
AnswerWithin a = Unit {0}

abbrev MeaningWithin : Meaning → Type 0
MeaningWithin (One f) = (c : Const) → ConstWithin c → AnswerWithin (f c)
MeaningWithin (Two f) = (c d : Const) → ConstWithin c → ConstWithin d → AnswerWithin (f c d)

-- numbers of 64 bits
fits_integer : (z : ℤ) → FitsSigned w64 z → is_integer z ≡ true
fits_integer (pos n) h = grind (arith, nat_tests)
fits_integer (negsuc n) h = grind (arith, nat_tests)

wrapped : (z : ℤ) → is_integer (int_wrap w64 z) ≡ true
wrapped z = fits_integer (int_wrap w64 z) (SFits-int_wrap w64 z)

below : (n m : ℕ) → nat_lt n m ≡ true → n < m
below n m h = grind (arith, nat_tests)

is_below : (n m : ℕ) → n < m → nat_lt n m ≡ true
is_below n m h = grind (arith, nat_tests)

at_most : (n m : ℕ) → nat_le n m ≡ true → n ≤ m
at_most n m h = grind (arith, nat_tests)

is_at_most : (n m : ℕ) → n ≤ m → nat_le n m ≡ true
is_at_most n m h = grind (arith, nat_tests)

little : (z : ℤ) → unsigned_abs z < 2 ^ 63 → is_integer z ≡ true
little (pos n) h = is_below n (2 ^ 63) h
little (negsuc n) h = is_below n (2 ^ 63) (omega (arith, h))

abs_most : (z : ℤ) → is_integer z ≡ true → unsigned_abs z ≤ 2 ^ 63
abs_most (pos n) h = let l = below n (2 ^ 63) h in omega (arith, l)
abs_most (negsuc n) h = let l = below n (2 ^ 63) h in omega (arith, l)

not_zero : (y : ℤ) → same_int y (pos 0) ≡ false → 0 < unsigned_abs y
not_zero (pos zero) h = absurd (true≢false h)
not_zero (pos (suc n)) h = omega arith
not_zero (negsuc n) h = omega arith

rem_within : (x y : ℤ) → is_integer y ≡ true → same_int y (pos 0) ≡ false → is_integer (int_rem x y) ≡ true
rem_within x y h e =
    let a = abs_most y h in
    let b = rem_below x y (not_zero y e) in
    little (int_rem x y) (omega (arith, a, b))

-- an answer under a test
tested : (b : Bool) (x y : PrimitiveAnswer) → (b ≡ true → AnswerWithin x) → (b ≡ false → AnswerWithin y) → AnswerWithin (cond b x y)
tested true x y h k = h refl
tested false x y h k = k refl

bytes_at_most : (n m : ℕ) → n ≤ m → nat_le m longest_string ≡ true → nat_le n longest_string ≡ true
bytes_at_most n m l h = is_at_most n longest_string (let k = at_most m longest_string h in omega (arith, l, k))

sum_within : MeaningWithin (Two sum)
sum_within (CInt x) (CInt y) h k = wrapped (x +ℤ y)
sum_within _ _ h k = tt

difference_within : MeaningWithin (Two difference)
difference_within (CInt x) (CInt y) h k = wrapped (x -ℤ y)
difference_within _ _ h k = tt

product_within : MeaningWithin (Two product)
product_within (CInt x) (CInt y) h k = wrapped (x *ℤ y)
product_within _ _ h k = tt

quotient_within : MeaningWithin (Two quotient)
quotient_within (CInt x) (CInt y) h k = tested (same_int y (pos 0)) raise_division_by_zero (Yields (CInt (int_wrap w64 (int_div x y)))) (λ e. (refl, refl)) (λ e. wrapped (int_div x y))
quotient_within _ _ h k = tt

remainder_within : MeaningWithin (Two remainder)
remainder_within (CInt x) (CInt y) h k = tested (same_int y (pos 0)) raise_division_by_zero (Yields (CInt (int_rem x y))) (λ e. (refl, refl)) (λ e. rem_within x y k e)
remainder_within _ _ h k = tt

negation_within : MeaningWithin (One negation)
negation_within (CInt x) h = wrapped (neg_ℤ x)
negation_within _ h = tt

equal_within : MeaningWithin (Two equal)
equal_within (CInt x) (CInt y) h k = tt
equal_within (CBool x) (CBool y) h k = tt
equal_within (CStr x) (CStr y) h k = tt
equal_within _ _ h k = tt

less_within : MeaningWithin (Two less)
less_within (CInt x) (CInt y) h k = tt
less_within (CBool x) (CBool y) h k = tt
less_within (CStr x) (CStr y) h k = tt
less_within _ _ h k = tt

joined_within : MeaningWithin (Two concatenated)
joined_within (CStr s) (CStr t) h k =
    tested (nat_le (length s + length t) longest_string) (Yields (CStr (s ++ t))) (raise_invalid_argument (codes "string"))
    (λ e. ap (λ n. nat_le n longest_string) (length-append s t) ∙ e) (λ e. (refl, refl))
joined_within _ _ h k = tt

opposite_within : MeaningWithin (One opposite)
opposite_within (CBool b) h = tt
opposite_within _ h = tt

digits_short : (z : ℤ) → is_integer z ≡ true → is_string (signed_decimal z) ≡ true
digits_short z h = is_at_most (length (signed_decimal z)) longest_string (let l = digits z h in omega (arith, l))
  where
    digits : (z : ℤ) → is_integer z ≡ true → length (signed_decimal z) ≤ 20 + 1
    digits (pos m) e = let l = below m (2 ^ 63) e in length_signed_le 20 (pos m) (omega (arith, l)) l
    digits (negsuc m) e = let l = below m (2 ^ 63) e in length_signed_le 20 (negsuc m) (omega (arith, l)) l

print_int_within : MeaningWithin (One printed_int)
print_int_within (CInt n) h = digits_short n h
print_int_within _ h = tt

print_string_within : MeaningWithin (One printed_string)
print_string_within (CStr s) h = h
print_string_within _ h = tt

send_within : MeaningWithin (One sent_string)
send_within (CStr s) h = h
send_within _ h = tt

receive_within : MeaningWithin (One received_string)
receive_within CUnit h = tt
receive_within _ h = tt

size_within : MeaningWithin (One length_answer)
size_within (CStr s) h = is_below (length s) (2 ^ 63) (let l = at_most (length s) longest_string h in omega (arith, l))
size_within _ h = tt

take_short : (n : ℕ) (s : Bytes) → length (take n s) ≤ length s
take_short zero s = omega arith
take_short (suc n) [] = omega arith
take_short (suc n) (x ∷ s) = let l = take_short n s in omega (arith, l)

take_few : (n : ℕ) (s : Bytes) → length (take n s) ≤ n
take_few zero s = omega arith
take_few (suc n) [] = omega arith
take_few (suc n) (x ∷ s) = let l = take_few n s in omega (arith, l)

drop_short : (i : ℕ) (s : Bytes) → length (drop i s) ≤ length s
drop_short zero s = omega arith
drop_short (suc i) [] = omega arith
drop_short (suc i) (x ∷ s) = let l = drop_short i s in omega (arith, l)

part_within : (s : Bytes) (i n : ℤ) → is_string s ≡ true → AnswerWithin (bytes_between s i n)
part_within s (pos i) (pos n) h =
    tested (nat_le (i + n) (length s)) (Yields (CStr (take n (drop i s)))) (raise_invalid_argument (codes "sub"))
    (λ e. bytes_at_most (length (take n (drop i s))) (length s) (let a = take_short n (drop i s) in let b = drop_short i s in omega (arith, a, b)) h) (λ e. (refl, refl))
part_within s _ _ h = (refl, refl)

sub_within : MeaningWithin (One part_of_string)
sub_within (CPart s i n) h = part_within s i n h.0
sub_within _ h = tt

of_int_within : MeaningWithin (One int_as_string)
of_int_within (CInt n) h = digits_short n h
of_int_within _ h = tt

abbrev EachWithin : List Meaning → Type 0
EachWithin [] = Unit {0}
EachWithin (m ∷ ms) = MeaningWithin m × EachWithin ms

each_within : EachWithin meanings
each_within =
    (sum_within, (difference_within, (product_within, (quotient_within, (remainder_within, (negation_within, (equal_within, (less_within, (joined_within, (opposite_within, (print_int_within, (print_string_within, (send_within, (receive_within, (size_within, (sub_within, (of_int_within, tt)))))))))))))))))

meaning_within : (ms : List Meaning) → EachWithin ms → (k : ℕ) (m : Meaning) → slice_get ms k ≡ Some m → MeaningWithin m
meaning_within [] e k m h = absurd (none≢some h)
meaning_within (x ∷ ms) e zero m h = subst MeaningWithin (some_eq h) e.0
meaning_within (x ∷ ms) e (suc k) m h = meaning_within ms e.1 k m h

applied_within : (m : Meaning) (cs : List Const) → MeaningWithin m → ConstsWithin cs → AnswerWithin (primitive_answer m cs)
applied_within (One f) (a ∷ []) h k = h a k.0
applied_within (Two f) (a ∷ (b ∷ [])) h k = h a b k.0 k.1.0
applied_within (One f) [] h k = tt
applied_within (One f) (a ∷ (b ∷ cs)) h k = tt
applied_within (Two f) [] h k = tt
applied_within (Two f) (a ∷ []) h k = tt
applied_within (Two f) (a ∷ (b ∷ (c ∷ cs))) h k = tt

-- the constants that values are
abbrev OneWithin : Option Const → Type 0
OneWithin None = Unit {0}
OneWithin (Some c) = ConstWithin c

abbrev SomeWithin : Option (List Const) → Type 0
SomeWithin None = Unit {0}
SomeWithin (Some cs) = ConstsWithin cs

const_of_parts_within : (vs : Values) → ValuesWithin vs → OneWithin (const_of_parts vs)
const_of_parts_within (value (VStr s) (value (VInt i) (value (VInt n) no_values))) h = (h.0, h.1.0, h.1.1.0)
const_of_parts_within _ h = tt

const_of_within : (v : Value) → ValueWithin v → OneWithin (const_of v)
const_of_within (VInt n) h = h
const_of_within (VBool b) h = tt
const_of_within (VStr s) h = h
const_of_within VUnit h = tt
const_of_within (VTuple vs) h = const_of_parts_within vs h.1
const_of_within _ h = tt

both_there : (o : Option Const) (os : Option (List Const)) → OneWithin o → SomeWithin os → SomeWithin (all_there o os)
both_there (Some c) (Some cs) h k = (h, k)
both_there None os h k = tt
both_there (Some c) None h k = tt

consts_of_within : (vs : Values) → ValuesWithin vs → SomeWithin (consts_of vs)
consts_of_within no_values h = tt
consts_of_within (value v vs) h = both_there (const_of v) (consts_of vs) (const_of_within v h.0) (consts_of_within vs h.1)

answer_at_within : (o : Option Meaning) (os : Option (List Const)) → ((m : Meaning) → o ≡ Some m → MeaningWithin m) → SomeWithin os → AnswerWithin (answer_at o os)
answer_at_within (Some m) (Some cs) f h = applied_within m cs (f m refl) h
answer_at_within None os f h = tt
answer_at_within (Some m) None f h = tt

primitive_within : (k : ℕ) (vs : Values) → ValuesWithin vs → AnswerWithin (primitive k vs)
primitive_within k vs h = answer_at_within (meaning k) (consts_of vs) (λ m e. meaning_within meanings each_within k m e) (consts_of_within vs h)

spelled_within : (k : Const) → ConstWithin k → Within false (spelled k)
spelled_within (CInt n) h = h
spelled_within (CBool b) h = tt
spelled_within (CStr s) h = h
spelled_within CUnit h = tt
spelled_within (CPart s i n) h = (refl, (h.0, (h.1, (h.2, tt))))

-- a frame holds a string
whole_short : (bs : Bytes) (s rest : Bytes) → next_frame bs ≡ Whole s rest → is_string s ≡ true
whole_short [] s rest e = absurd cc
whole_short (a ∷ []) s rest e = absurd cc
whole_short (a ∷ (b ∷ [])) s rest e = absurd cc
whole_short (a ∷ (b ∷ (c ∷ []))) s rest e = absurd cc
whole_short (a ∷ (b ∷ (c ∷ (d ∷ bs)))) s rest e = by (from_be_bytes w32 (a ∷ b ∷ c ∷ d ∷ [])) _ refl e
  where
    there : (n : ℕ) (b : Bool) → nat_le n longest_frame ≡ true → cond b (Whole (take n bs) (drop n bs)) (Bad n (4 + length bs)) ≡ Whole s rest → is_string s ≡ true
    there n false p q = absurd cc
    there n true p q =
        let same : take n bs ≡ s = cc in
        subst (λ x. is_string x ≡ true) same (bytes_at_most (length (take n bs)) n (take_few n bs) p)

    by : (n : ℕ) (b : Bool) → nat_le n longest_frame ≡ b → cond b (cond (nat_le n (length bs)) (Whole (take n bs) (drop n bs)) (Bad n (4 + length bs))) (Bad n 4) ≡ Whole s rest → is_string s ≡ true
    by n false p q = absurd cc
    by n true p q = there n (nat_le n (length bs)) p q

-- where none comes, an exception is raised
raising_within : (x : Exception) → RaisedWithin x → Within false (raising TStr x)
raising_within x h = ((refl, refl), (tt, h))

received_within : (f : Frame) (z : World) → WritesWithin z.writes → ((s rest : Bytes) → f ≡ Whole s rest → is_string s ≡ true) → Good (receiving spelled (raising TStr) f z)
received_within (Whole s rest) z w h = (h s rest refl, w)
received_within (Bad n got) z w h = (raising_within bad_frame (refl, refl), w)
received_within AtEnd z w h = (raising_within end_of_file_exn (refl, refl), w)

sent_within : (b : Bool) (s : Bytes) (z : World) → WritesWithin z.writes → is_string s ≡ true → Good (sending spelled b s z)
sent_within true s z w h = (tt, one_more z.writes (Send s) w h)
sent_within false s z w h = (refl, refl)

answered_within : (a : PrimitiveAnswer) (z : World) → WritesWithin z.writes → AnswerWithin a → Good (answered spelled (raising TStr) z a)
answered_within (Yields c) z w h = spelled_within c h
answered_within (Prints s) z w h = (tt, one_more z.writes (Print s) w h)
answered_within (Sends s) z w h = sent_within z.has_channel s z w h
answered_within Receives z w h = received_within (next_frame z.input) z w (λ s rest e. whole_short z.input s rest e)
answered_within (Fails k s) z w h = h
answered_within NoSense z w h = tt

-- so a primitive comes to what is within the bounds
pub primitive_answered : (k : ℕ) (vs : Values) (z : World) → WritesWithin z.writes → ValuesWithin vs → Good (answered spelled (raising TStr) z (primitive k vs))
primitive_answered k vs z w h = answered_within (primitive k vs) z w (primitive_within k vs h)
