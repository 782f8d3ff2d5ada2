-- Spellings, computed byte by byte.
use Rattle.std.proofs.Common.{◌≡◌, refl, IsTrue, arith}
use Rattle.std.specs.Prelude.{false, [], ◌∷◌, Some, length, pos}
use Rattle.ac_types.specs.Words.{is_reserved}
use Rattle.ac_types.specs.Types.{TInt, TMine}
use Rattle.ac_terms.specs.Terms.{Int, Lam, Val, KInt}
use Rattle.ac_terms.specs.Spelling.{canonical_text, packet_bytes}
use Rattle.ac_terms.specs.Bounds.{Spells, fits_packet, fits_type, fits_term}
use Rattle.ac_terms.proofs.Samples.{six, five_packet, pair_packet}

-- the canonical text of `module C : sig val y : int end = struct val y : int = 6 end` has these 28 bytes
pub text_of_six :
    canonical_text (λ j. []) six ≡
    Some (0x01 ∷ 0x01 ∷ 0x43 ∷ 0x01 ∷ 0x02 ∷ 0x00 ∷ 0x00 ∷ 0x00 ∷ 0x01 ∷ 0x01 ∷ 0x79 ∷ 0x01 ∷ 0x00 ∷ 0x00 ∷ 0x00 ∷ 0x01 ∷ 0x01 ∷ 0x79 ∷ 0x01 ∷ 0x01 ∷ 0x00 ∷ 0x00 ∷ 0x00 ∷ 0x00 ∷ 0x00 ∷ 0x00 ∷ 0x00 ∷ 0x06 ∷ [])
text_of_six = refl

-- the packet of 5 at int: head, no definitions, type, value
pub five_packet_bytes :
    packet_bytes five_packet ≡
    0x41 ∷ 0x43 ∷ 0x55 ∷ 0x50 ∷ 0x01 ∷ 0x00 ∷ 0x00 ∷ 0x01 ∷ 0x01 ∷ 0x00 ∷ 0x00 ∷ 0x00 ∷ 0x00 ∷ 0x00 ∷ 0x00 ∷ 0x00 ∷ 0x05 ∷ []
five_packet_bytes = refl

-- the packet of `fun (u : unit) -> (M1.y, M2.z)`: head, import M1, module M2, type, value
pub pair_packet_bytes :
    packet_bytes pair_packet ≡
    0x41 ∷ 0x43 ∷ 0x55 ∷ 0x50 ∷ 0x01 ∷ 0x00 ∷ 0x02 ∷
    0x02 ∷ 0x02 ∷ 0x4D ∷ 0x31 ∷ 0x00 ∷ 0x00 ∷ 0x00 ∷ 0x01 ∷ 0x01 ∷ 0x79 ∷ 0x01 ∷ 0x01 ∷ 0x00 ∷ 0x01 ∷ 0x00 ∷ 0x00 ∷ 0x01 ∷ 0x02 ∷
    0x01 ∷ 0x02 ∷ 0x4D ∷ 0x32 ∷ 0x01 ∷ 0x02 ∷ 0x00 ∷ 0x00 ∷ 0x00 ∷ 0x01 ∷ 0x01 ∷ 0x7A ∷ 0x01 ∷ 0x00 ∷ 0x00 ∷ 0x00 ∷ 0x01 ∷ 0x01 ∷ 0x7A ∷ 0x01 ∷ 0x01 ∷ 0x00 ∷ 0x00 ∷ 0x00 ∷ 0x00 ∷ 0x00 ∷ 0x00 ∷ 0x00 ∷ 0x03 ∷
    0x09 ∷ 0x04 ∷ 0x06 ∷ 0x02 ∷ 0x01 ∷ 0x01 ∷
    0x0A ∷ 0x00 ∷ 0x00 ∷ 0x0E ∷ 0x04 ∷ 0x06 ∷ 0x02 ∷ 0x0D ∷ 0x00 ∷ 0x00 ∷ 0x01 ∷ 0x79 ∷ 0x0D ∷ 0x00 ∷ 0x01 ∷ 0x01 ∷ 0x7A ∷ []
pair_packet_bytes = refl

pub pair_packet_length : length (packet_bytes pair_packet) ≡ 77
pair_packet_length = refl

-- it is within the bounds, so these bytes spell it
pub pair_packet_fits : IsTrue (fits_packet pair_packet)
unfolding is_reserved
pair_packet_fits = refl

pub pair_packet_spelled : Spells (packet_bytes pair_packet) pair_packet
pair_packet_spelled = record { fits = pair_packet_fits; spelled = refl; short = omega arith }

-- an own abstract type stands in a signature alone, and a captured value in a packed function alone
pub no_own_type : fits_type false (TMine (0x74 ∷ [])) ≡ false
no_own_type = refl

pub no_captured_value : fits_term false (Lam TInt (Val TInt (KInt (pos 5)))) ≡ false
no_captured_value = refl

-- an int of 2^63 has no spelling
pub no_large_int : fits_term false (Int (pos 9223372036854775808)) ≡ false
no_large_int = refl
