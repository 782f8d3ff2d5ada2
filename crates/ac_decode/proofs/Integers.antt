-- An int that was read is one of eight bytes.
use Rattle.std.proofs.Common.{◌≡◌, true, ◌^◌, Some}
use Rattle.std.specs.Prelude.{ℤ, pos, negsuc}
use Rattle.std.specs.Int.{w64}
use Rattle.std.specs.Int.RustNames.{FitsSigned}
use Rattle.ac_types.specs.Types.{Bytes}
use Rattle.ac_terms.specs.Bounds.{is_integer}
use Rattle.ac_terms.proofs.TestLaws.{lt_true}
use Rattle.ac_decode_pieces.specs.ExactReading.{exact_eight}
use Rattle.ac_decode_pieces.proofs.Pieces.{eight_is_exact}

integer_fits : (z : ℤ) → is_integer z ≡ true → FitsSigned w64 z
integer_fits (pos n) e = record { sfits = lt_true n (2 ^ 63) e }
integer_fits (negsuc n) e = record { sfits = lt_true n (2 ^ 63) e }

pub read_fits : (bs : Bytes) (z : ℤ) (left : Bytes) → exact_eight bs ≡ Some (z, left) → FitsSigned w64 z
read_fits bs z left e = integer_fits z (eight_is_exact.sound bs z left e).fits
