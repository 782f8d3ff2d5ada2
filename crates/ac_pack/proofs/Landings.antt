-- From a string that is read, or isn't, to what it brings.
use Rattle.std.proofs.Common.{◌≡◌, ℕ, refl, sym, ap, ◌∙◌, subst, Option, Some, None}
use Rattle.std.specs.Prelude.{Ok, Err, codes}
use Rattle.std.specs.declared.result.Result.{Result}
use Rattle.sha2.specs.Sha256.{sha256}
use Rattle.ac_types.specs.Types.{Bytes, Typ}
use Rattle.ac_terms.specs.Defs.{Environment, Packet}
use Rattle.ac_terms.specs.Bounds.{Spells}
use Rattle.ac_terms.specs.PacketReading as reading
use Rattle.ac_terms.specs.Read.{packet_of, value_of}
use Rattle.ac_terms.specs.declared.def.Packet as code_packet
use Rattle.ac_terms.specs.declared.term.PVal.{PVal}
use Rattle.ac_terms.proofs.SpelledLaws.{read_is_spelled, spelled_is_read}
use Rattle.ac_rules.specs.Coherent.{IsCoherent}
use Rattle.ac_rules.specs.Growth.{Grows}
use Rattle.ac_rules.specs.Packets.{cause}
use Rattle.ac_meaning.specs.Packing.{Sinks, unmarshal_failure_exn, admitted, received, landing}
use Rattle.ac_meaning.proofs.Admitted.{grows}
use Rattle.ac_decode.specs.Decoding.{OnFormat}
use Rattle.ac_decode.specs.declared.packets.DecodeFault.{DecodeFault}
use Rattle.ac_decode.specs.declared.packets.DecodeFault.TheVariants as decode_fault
use Rattle.ac_pack.specs.inner.Landed.{IsRaised, HasRead, Landed}
use Rattle.ac_pack.specs.declared.fault.CrossFault.{CrossFault}
use Rattle.ac_pack.specs.declared.fault.CrossFault.TheVariants as fault

-- what holds of a fault that is one of format
pub of_format : (f : DecodeFault) (at : ℕ) (P : Type 0) → f ≡ decode_fault.Format at → OnFormat {X = code_packet.Packet} (Err f) P → P
of_format f at P is h = subst (λ f. OnFormat {X = code_packet.Packet} (Err f) P) is h

-- a string spells no packet
pub no_packet : (bytes : Bytes) → ((p : Packet) → Spells bytes p → ⊥) → reading.packet_of bytes ≡ None
no_packet bytes none = by (reading.packet_of bytes) refl
  where
    by : (o : Option Packet) → reading.packet_of bytes ≡ o → reading.packet_of bytes ≡ None
    by None e = e
    by (Some p) e = absurd (none p (read_is_spelled bytes p e))

pub not_read : (bytes : Bytes) (r : CrossFault) → reading.packet_of bytes ≡ None → IsRaised (unmarshal_failure_exn (codes "format")) r → HasRead (reading.packet_of bytes) (Err r)
not_read bytes (fault.Raise e) none is = (none, is)
not_read bytes fault.Memory none is = tt

pub packet_read : (bytes : Bytes) (p : code_packet.Packet) → Spells bytes (packet_of p) → HasRead (reading.packet_of bytes) (Ok p)
packet_read bytes p s = (spelled_is_read bytes (packet_of p) s, s.fits)

module _ (E F : Environment) (T : Typ) where
  -- what a packet brings, its string brings
  pub string_lands : (s : Bytes) (p : Packet) (r : Result PVal CrossFault) → reading.packet_of s ≡ Some p → Landed (admitted E p (cause sha256 E p T)) E F r → Landed (landing E T s) E F r
  unfolding landing
  string_lands s p (Ok v) e h = ap (received E T) e ∙ h
  string_lands s p (Err (fault.Raise x)) e h = (ap (received E T) e ∙ h.0, h.1)
  string_lands s p (Err fault.Memory) e h = tt

  -- a string that is not read brings nothing
  pub nothing_lands : (s : Bytes) (f : CrossFault) → F ≡ E → HasRead (reading.packet_of s) (Err f) → Landed (landing E T s) E F (Err f)
  unfolding landing
  nothing_lands s (fault.Raise e) same h = (ap (received E T) h.0 ∙ ap Sinks (sym h.1), same)
  nothing_lands s fault.Memory same h = tt

  -- where a value has landed, the definitions have grown
  pub grown : (s : Bytes) (v : PVal) → IsCoherent E → Landed (landing E T s) E F (Ok v) → Grows E F
  grown s v i h = grows E T s F (value_of v) i h
