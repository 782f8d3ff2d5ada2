-- What digits write, digit by digit.
use Rattle.std.proofs.Common.{◌≡◌, ◌≤◌, ◌<◌, ◌+◌, ◌-◌, ◌*◌, ℕ, List, [], ◌∷◌, ap, arith, length, get_or, drop, suc, drop-cons}
use Rattle.std.specs.Prelude.{fold}

-- the number that digits write after those of n
abbrev pub value_after : ℕ → List ℕ → ℕ
value_after n digits = fold (λ m c. 10 * m + (c - 48)) n digits

value_grows : (digits : List ℕ) (n : ℕ) → n ≤ value_after n digits
value_grows [] n = omega arith
value_grows (d ∷ digits) n = let h = value_grows digits (10 * n + (d - 48)) in omega arith

-- the next digit is within the whole number
pub value_step : (digits : List ℕ) (i n total : ℕ) → i < length digits → value_after n (drop i digits) ≡ total → 10 * n + (get_or digits i 0 - 48) ≤ total
value_step digits i n total h is =
    let e : value_after n (drop i digits) ≡ value_after (10 * n + (get_or digits i 0 - 48)) (drop (suc i) digits) = ap (λ (l : List ℕ). value_after n l) (drop-cons digits i 0 h) in
    let g = value_grows (drop (suc i) digits) (10 * n + (get_or digits i 0 - 48)) in
    omega arith
