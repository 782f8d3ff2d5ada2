-- What the primitives answer, by the constants that they are given.
use Rattle.std.proofs.Common.{◌<◌, ◌≤◌, ◌≡◌, ◌≢◌, ℕ, zero, suc, ℤ, Bool, true, false, List, [], ◌∷◌, length, get_or, Option, None, refl, ap, ◌∙◌, arith}
use lib.IntN.{pos, negsuc}
use Rattle.std.specs.Prelude.{not, ◌&&◌, int_lt, int_div, neg_ℤ, ◌/◌}
use Rattle.std.proofs.lemmas.Bool.{lt-ltb}
use Rattle.std.proofs.Math.Nat.{div-le_self, div-lt_self}
use lib.Signed.{mag}
use Rattle.std.proofs.lemmas.Int.{wraps}
use Rattle.std.proofs.lemmas.Grind.{common_steps}
use Rattle.std.specs.Prelude.{option_and_then, option_map}
use Rattle.ac_types.specs.Types.{Bytes}
use Rattle.ac_code.specs.Constants.{Const, CPart, same_int}
use Rattle.ac_values.specs.declared.node.Value.{Value}
use Rattle.ac_values.specs.Values.{MValue, value_at, values_at}
use Rattle.ac_values.specs.ValueReaders.{text_in, int_in}
use Rattle.ac_machine_primitives.specs.Consts.{part_in}

abbrev pub three : Option Bytes → Option ℤ → Option ℤ → Option Const
three s i n = option_and_then (λ (s : Bytes). option_and_then (λ (i : ℤ). option_map (λ (n : ℤ). CPart s i n) n) i) s

pub part_three : (ts : List MValue) (vs : List Value) (d : Value) → length vs ≡ 3 →
    part_in (values_at ts vs) ≡ three (text_in (value_at ts (get_or vs 0 d).0)) (int_in (value_at ts (get_or vs 1 d).0)) (int_in (value_at ts (get_or vs 2 d).0))
part_three ts [] d e = absurd (omega arith)
part_three ts (a ∷ []) d e = absurd (omega arith)
part_three ts (a ∷ b ∷ []) d e = absurd (omega arith)
part_three ts (a ∷ b ∷ c ∷ []) d e = refl
part_three ts (a ∷ b ∷ c ∷ x ∷ vs) d e = absurd (omega arith)

pub part_other : (ts : List MValue) (vs : List Value) → length vs ≢ 3 → part_in (values_at ts vs) ≡ None
part_other ts [] e = refl
part_other ts (a ∷ []) e = refl
part_other ts (a ∷ b ∷ []) e = refl
part_other ts (a ∷ b ∷ c ∷ []) e = absurd (e refl)
part_other ts (a ∷ b ∷ c ∷ x ∷ vs) e = refl

and_false : (b : Bool) → (b && false) ≡ false
and_false true = refl
and_false false = refl

-- a divisor that isn't 0
pub not_zero : (y : ℤ) → (y ≡ pos 0 → ⊥) → same_int y (pos 0) ≡ false
not_zero (pos zero) h = absurd (h refl)
not_zero (pos (suc n)) h =
    let e : int_lt (pos 0) (pos (suc n)) ≡ true = lt-ltb 0 (suc n) (omega arith) in
    ap (λ (t : Bool). not (int_lt (pos (suc n)) (pos 0)) && not t) e ∙ and_false (not (int_lt (pos (suc n)) (pos 0)))
not_zero (negsuc n) h = refl

pub by_minus_one : (x : ℤ) → int_div x (negsuc 0) ≡ neg_ℤ x
by_minus_one (pos n) = let e : n / 1 ≡ n = omega arith in ap (λ (k : ℕ). neg_ℤ (pos k)) e
by_minus_one (negsuc n) = let e : suc n / 1 ≡ suc n = omega arith in ap pos e

neg_fits : (k : ℕ) → k ≤ 9223372036854775808 → mag (neg_ℤ (pos k)) < 9223372036854775808
neg_fits zero h = omega arith
neg_fits (suc k) h = omega arith

-- a quotient fits, but that of the least number by -1
pub fits_div : (x y : ℤ) → mag x < 9223372036854775808 → (y ≡ negsuc 0 → ⊥) → mag (int_div x y) < 9223372036854775808
fits_div (pos a) (pos b) h n = omega (arith, div-le_self a b)
fits_div (pos a) (negsuc b) h n = neg_fits (a / suc b) (omega (arith, div-le_self a (suc b)))
fits_div (negsuc a) (pos b) h n = neg_fits (suc a / b) (omega (arith, div-le_self (suc a) b))
fits_div (negsuc a) (negsuc zero) h n = absurd (n refl)
fits_div (negsuc a) (negsuc (suc b)) h n =
    let l : suc a / suc (suc b) < suc a = div-lt_self (omega arith) (omega arith) in
    omega arith

pub ruleset part_laws = (part_three, part_other)

pub ruleset operator_laws = (wraps, common_steps)
