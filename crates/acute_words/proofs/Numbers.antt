-- What `parse` reads, as `number_in` says it.
use Rattle.std.proofs.Common.{◌≡◌, ◌<◌, ◌≤◌, ◌^◌, ◌&&◌, ℕ, Bool, true, false, true≢false, refl, sym, ap, arith, List, [], ◌∷◌, length, slice_index, Some, None, Ok, Err, nat_lt, lt-ltb, ltb-true}
use Rattle.std.specs.Prelude.{◌==◌, nat_le}
use Rattle.std.proofs.Math.Bool.{and-false}
use Rattle.std.proofs.lemmas.Bool.{leb-true, le-leb}
use Rattle.std.specs.List.{list_all}
use Rattle.std.specs.Char.{digit_value}
use Rattle.std.specs.Str.Parse.{AllDigits, ParsesUnsigned, digits_value}
use Rattle.acute_words.specs.WordValues.{is_decimal, number_within}

-- digits pass the test of digits
digits_pass : (ds : List ℕ) → AllDigits 10 ds → list_all (λ d. nat_lt (digit_value d) 10) ds ≡ true
digits_pass [] h = refl
digits_pass (d ∷ ds) h = rw (lt-ltb (digit_value d) 10 h.0) (digits_pass ds h.1)

-- both tests of two
both : (a b : Bool) → (a && b) ≡ true → (a ≡ true) × (b ≡ true)
both true b e = (refl, e)
both false b e = absurd (true≢false (sym e))

-- what passes the test of digits is digits
digits_from : (ds : List ℕ) → list_all (λ d. nat_lt (digit_value d) 10) ds ≡ true → AllDigits 10 ds
digits_from [] e = tt
digits_from (d ∷ ds) e = let parts = both _ _ e in (ltb-true _ _ parts.0, digits_from ds parts.1)

-- a text without a plus that is read is decimal
decimal_if : (E : Type 0) (t : List ℕ) (n : ℕ) → (slice_index t 0 == 43) ≡ false → ParsesUnsigned {E = E} 64 10 t (Ok n)
    → (is_decimal t ≡ true) × (n ≡ digits_value 10 t)
decimal_if E t n plus h =
    let h' = rw plus at h in
    (rw (lt-ltb 0 (length t) h'.0.0.0, digits_pass t h'.0.0.1) refl, h'.1)

-- a number that is read, within its bounds
pub read_in : (E : Type 0) (t : List ℕ) (n least most : ℕ) → (slice_index t 0 == 43) ≡ false → ParsesUnsigned {E = E} 64 10 t (Ok n)
    → least ≤ n → n ≤ most
    → Some n ≡ number_within least most t
read_in E t n least most plus h low high =
    let d = decimal_if E t n plus h in
    let low' : nat_le least (digits_value 10 t) ≡ true = le-leb least (digits_value 10 t) (omega (arith, d.1)) in
    let high' : nat_le (digits_value 10 t) most ≡ true = le-leb (digits_value 10 t) most (omega (arith, d.1)) in
    rw (d.0, low', high') (ap Some d.1)

-- a text that isn't read
pub read_err : {E : Type 0} (t : List ℕ) (e : E) (least most : ℕ) → (slice_index t 0 == 43) ≡ false → ParsesUnsigned 64 10 t (Err e)
    → most < 2 ^ 64
    → None ≡ number_within least most t
read_err t e least most plus h fits = go (is_decimal t) (nat_le (digits_value 10 t) most) refl refl
  where
    go : (b m : Bool) → is_decimal t ≡ b → nat_le (digits_value 10 t) most ≡ m → None ≡ number_within least most t
    go false m d e = rw d refl
    go true false d e = let off = and-false (nat_le least (digits_value 10 t)) in rw (d, e, off) refl
    go true true d e =
        let parts = both _ _ d in
        let below = leb-true (digits_value 10 t) most e in
        let h' = rw plus at h in
        absurd (h' ((ltb-true _ _ parts.0, digits_from t parts.1), omega arith))

-- a number that is read is at most the greatest
pub read_most : (t : List ℕ) (n least most : ℕ) → Some n ≡ number_within least most t → n ≤ most
read_most t n least most is = go (is_decimal t) (nat_le least (digits_value 10 t)) (nat_le (digits_value 10 t) most) refl refl refl
  where
    go : (d l m : Bool) → is_decimal t ≡ d → nat_le least (digits_value 10 t) ≡ l → nat_le (digits_value 10 t) most ≡ m → n ≤ most
    go false l m x y z = let none : Some n ≡ None = rw x at is in absurd cc
    go true false m x y z = let none : Some n ≡ None = rw (x, y) at is in absurd cc
    go true true false x y z = let none : Some n ≡ None = rw (x, y, z) at is in absurd cc
    go true true true x y z =
        let some : Some n ≡ Some (digits_value 10 t) = rw (x, y, z) at is in
        let same : n ≡ digits_value 10 t = cc in
        omega (arith, same, leb-true (digits_value 10 t) most z)
