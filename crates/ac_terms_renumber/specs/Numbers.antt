-- Numbers that stand for numbers.
use Rattle.std.specs.Prelude.{ℕ, List, unwrap_or, slice_get}

-- the number that a list has at a place, 0 behind its end
abbrev pub number_for : List ℕ → ℕ → ℕ
number_for ns k = unwrap_or (slice_get ns k) 0
