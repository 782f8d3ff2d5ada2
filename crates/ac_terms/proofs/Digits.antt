-- What the last digits of a number are, which spell it in so many bytes.
use Rattle.std.proofs.Common.{◌≡◌, ap, ℕ, ◌<◌, [], ◌∷◌}
use Rattle.std.specs.Prelude.{◌/◌, ◌%◌}
use native.Mathlib.Omega.{arith}
use Rattle.ac_terms.specs.Spelling.{one_written, two_written, four_written}

-- a number that fits in a byte is that byte
pub one_is : (n : ℕ) → n < 256 → one_written n ≡ n ∷ []
one_is n low = let same : n % 256 ≡ n = omega arith in ap (λ m. m ∷ []) same

-- higher digits don't matter
pub two_last : (n : ℕ) → two_written (n % 65536) ≡ two_written n
two_last n =
    let high : n % 65536 / 256 % 256 ≡ n / 256 % 256 = omega arith in
    let low : n % 65536 % 256 ≡ n % 256 = omega arith in
    λ i. high i ∷ low i ∷ []

pub four_last : (n : ℕ) → four_written (n % 4294967296) ≡ four_written n
four_last n =
    let a : n % 4294967296 / 16777216 % 256 ≡ n / 16777216 % 256 = omega arith in
    let b : n % 4294967296 / 65536 % 256 ≡ n / 65536 % 256 = omega arith in
    let c : n % 4294967296 / 256 % 256 ≡ n / 256 % 256 = omega arith in
    let d : n % 4294967296 % 256 ≡ n % 256 = omega arith in
    λ i. a i ∷ b i ∷ c i ∷ d i ∷ []

pub ruleset digits = (one_is, two_last, four_last)
