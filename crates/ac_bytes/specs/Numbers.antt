-- Numbers as bytes, the highest first.
use Rattle.std.specs.Prelude.{ℕ, ℤ, ◌+◌, ◌*◌, ◌^◌, ◌<◌, List, [], ◌∷◌, length, slice_index}
use Rattle.std.specs.Int.{w16, w32, w64, bytes_high_first, to_be_bytes, cast_unsigned}
use Rattle.ac_types.specs.Types.{Bytes}

-- the number that bytes write
abbrev pub number : Bytes → ℕ
number [] = 0
number (b ∷ bs) = b * 256 ^ length bs + number bs

-- that many bytes of a number
abbrev pub big_endian : ℕ → ℕ → Bytes
big_endian k n = bytes_high_first k n

-- numbers of two and of four bytes, and signed numbers of eight by two's complement
abbrev pub two : ℕ → Bytes
two n = to_be_bytes w16 n

abbrev pub four : ℕ → Bytes
four n = to_be_bytes w32 n

abbrev pub eight : ℤ → Bytes
eight z = to_be_bytes w64 (cast_unsigned w64 z)

-- each is a byte
abbrev pub AreBytes : List ℕ → Type 0
AreBytes bs = (i : ℕ) → slice_index bs i < 256
