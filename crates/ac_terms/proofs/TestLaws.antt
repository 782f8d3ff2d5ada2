-- What tests of numbers and of truth values say.
use Rattle.std.proofs.Common.{◌≡◌, refl, sym, ℕ, ◌<◌, ◌≤◌, Bool, true, false, not, nat_lt}
use Rattle.std.specs.Prelude.{nat_eq, nat_le}
use Rattle.std.proofs.lemmas.Bool.Decides.{nat_tests}
use mathlib.Core.Bool.{true≢false}
use native.Mathlib.Omega.{arith}

pub lt_true : (n m : ℕ) → nat_lt n m ≡ true → n < m
lt_true n m e = grind (arith, nat_tests)

pub lt_is : (n m : ℕ) → n < m → nat_lt n m ≡ true
lt_is n m e = grind (arith, nat_tests)

pub le_true : (n m : ℕ) → nat_le n m ≡ true → n ≤ m
le_true n m e = grind (arith, nat_tests)

pub le_is : (n m : ℕ) → n ≤ m → nat_le n m ≡ true
le_is n m e = grind (arith, nat_tests)

pub eq_true : (n m : ℕ) → nat_eq n m ≡ true → n ≡ m
eq_true n m e = grind (arith, nat_tests)

pub eq_self : (n : ℕ) → nat_eq n n ≡ true
eq_self n = grind (arith, nat_tests)

pub not_true : (b : Bool) → not b ≡ true → b ≡ false
not_true true e = absurd (true≢false (sym e))
not_true false e = refl

pub not_false : (b : Bool) → not b ≡ false → b ≡ true
not_false true e = refl
not_false false e = absurd (true≢false e)

pub not_where : (b : Bool) → (b ≡ true → ⊥) → not b ≡ true
not_where true f = absurd (f refl)
not_where false f = refl
