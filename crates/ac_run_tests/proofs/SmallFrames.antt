-- The frame of a string of one byte.
use Rattle.std.proofs.Common.{refl, arith, ℕ, [], ◌∷◌}
use Rattle.ac_outside.specs.Frames.{IsFrame}

pub one_byte : (b : ℕ) → IsFrame (0 ∷ 0 ∷ 0 ∷ 1 ∷ b ∷ [])
one_byte b = record { string = b ∷ []; short = omega arith; is = refl }
