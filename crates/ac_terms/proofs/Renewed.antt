-- A string renewed spells the packet that it spelled, and renewing it again changes nothing.
use Rattle.std.proofs.Common.{◌≡◌, refl, sym, ap, subst, ◌∙◌, ◌≤◌, length, Option, Some, None}
use Rattle.ac_types.specs.Limits.{longest_tabled}
use Rattle.ac_types.specs.Types.{Bytes}
use Rattle.ac_terms.specs.Defs.{Packet}
use Rattle.ac_terms.specs.Tables.{tabled_bytes, SpellsByTable, SpellsIn, InFull, ByTable}
use Rattle.ac_terms.specs.TableReading.{any_packet_of, renewed}
use Rattle.ac_terms.proofs.TableLength.{also_by_table}
use Rattle.ac_terms.proofs.TableBack.{any_read_is_spelled, any_spelled_is_read}

-- whatever spells a packet, its own bytes with a table do
pub by_table_too : (bytes : Bytes) (p : Packet) → SpellsIn bytes p → SpellsByTable (tabled_bytes p) p
by_table_too bytes p (InFull s) = (also_by_table bytes p s).0
by_table_too bytes p (ByTable s) = subst (λ b. SpellsByTable b p) s.spelled s

-- what a string is renewed to, where it spells a packet, and where it spells none
pub renewed_packet : (bytes : Bytes) (p : Packet) → any_packet_of bytes ≡ Some p → renewed bytes ≡ tabled_bytes p
renewed_packet bytes p e = ap (λ o. elim o as (λ z. Bytes) [ None ↦ bytes | Some q ↦ tabled_bytes q ]) e

pub renewed_other : (bytes : Bytes) → any_packet_of bytes ≡ None → renewed bytes ≡ bytes
renewed_other bytes e = ap (λ o. elim o as (λ z. Bytes) [ None ↦ bytes | Some q ↦ tabled_bytes q ]) e

-- the packet stays, and where there is none there is none then
pub same_packet : (bytes : Bytes) → any_packet_of (renewed bytes) ≡ any_packet_of bytes
same_packet bytes = by (any_packet_of bytes) refl
  where
    by : (o : Option Packet) → any_packet_of bytes ≡ o → any_packet_of (renewed bytes) ≡ any_packet_of bytes
    by None e = ap any_packet_of (renewed_other bytes e)
    by (Some p) e =
        ap any_packet_of (renewed_packet bytes p e) ∙ any_spelled_is_read (tabled_bytes p) p (ByTable (by_table_too bytes p (any_read_is_spelled bytes p e))) ∙ sym e

pub renewed_once : (bytes : Bytes) → renewed (renewed bytes) ≡ renewed bytes
renewed_once bytes = by (any_packet_of bytes) refl
  where
    by : (o : Option Packet) → any_packet_of bytes ≡ o → renewed (renewed bytes) ≡ renewed bytes
    by None e = renewed_other (renewed bytes) (same_packet bytes ∙ e)
    by (Some p) e = renewed_packet (renewed bytes) p (same_packet bytes ∙ e) ∙ sym (renewed_packet bytes p e)

-- and a string that fits in a frame fits in one then
pub renewed_short : (bytes : Bytes) → length bytes ≤ longest_tabled → length (renewed bytes) ≤ longest_tabled
renewed_short bytes h = by (any_packet_of bytes) refl
  where
    by : (o : Option Packet) → any_packet_of bytes ≡ o → length (renewed bytes) ≤ longest_tabled
    by None e = subst (λ b. length b ≤ longest_tabled) (sym (renewed_other bytes e)) h
    by (Some p) e = subst (λ b. length b ≤ longest_tabled) (sym (renewed_packet bytes p e)) (by_table_too bytes p (any_read_is_spelled bytes p e)).short
