-- Which strings are taken where they arrive, and what the others raise.
use Rattle.std.proofs.Common.{◌≡◌, ◌∙◌, refl, sym, ap, ap₂, Option, Some, None, codes}
use Rattle.sha2.specs.Sha256.{sha256}
use Rattle.ac_types.specs.Types.{Bytes, Typ}
use Rattle.ac_terms.specs.Terms.{PValue}
use Rattle.ac_terms.specs.Defs.{Environment, Packet}
use Rattle.ac_terms.specs.Bounds.{Spells}
use Rattle.ac_terms.specs.PacketReading.{packet_of}
use Rattle.ac_terms.proofs.SpelledLaws.{read_is_spelled, spelled_is_read}
use Rattle.ac_rules.specs.Packets.{PacketCause, cause, places, value_there, Accepts, RefusesPacket}
use Rattle.ac_meaning.specs.Packing.{Lands, Sinks, admitted, received, landing, of_cause, unmarshal_failure_exn}

-- it spells a packet that is accepted so
abbrev pub Takes : Environment → Typ → Bytes → Environment → PValue → Type 0
Takes E T s F v = (p : Packet) × Spells s p × Accepts E p T F v

by_cause : (E : Environment) (T : Typ) (s : Bytes) (F : Environment) (v : PValue) (p : Packet) → Spells s p → (c : Option PacketCause) → cause sha256 E p T ≡ c → admitted E p c ≡ Lands F v → Takes E T s F v
by_cause E T s F v p spells (Some why) e h = absurd cc
by_cause E T s F v p spells None e h =
    let a : (places sha256 E p.defs).0 ≡ F = cc in
    let b : value_there sha256 E p ≡ v = cc in
    (p, spells, record { no_cause = e; entries = sym a; value = sym b })

by_packet : (E : Environment) (T : Typ) (s : Bytes) (F : Environment) (v : PValue) (o : Option Packet) → packet_of s ≡ o → received E T o ≡ Lands F v → Takes E T s F v
by_packet E T s F v None e h = absurd cc
by_packet E T s F v (Some p) e h = by_cause E T s F v p (read_is_spelled s p e) (cause sha256 E p T) refl h

pub landed_takes : (E : Environment) (T : Typ) (s : Bytes) (F : Environment) (v : PValue) → landing E T s ≡ Lands F v → Takes E T s F v
unfolding landing
landed_takes E T s F v h = by_packet E T s F v (packet_of s) refl h

-- a packet that a string spells is the one that is looked at
looked_at : (E : Environment) (T : Typ) (s : Bytes) (p : Packet) → Spells s p → landing E T s ≡ admitted E p (cause sha256 E p T)
unfolding landing
looked_at E T s p spells = ap (received E T) (spelled_is_read s p spells)

pub takes_lands : (E : Environment) (T : Typ) (s : Bytes) (F : Environment) (v : PValue) → Takes E T s F v → landing E T s ≡ Lands F v
takes_lands E T s F v (p, spells, a) = looked_at E T s p spells ∙ ap (admitted E p) a.no_cause ∙ ap₂ Lands (sym a.entries) (sym a.value)

pub refused_sinks : (E : Environment) (T : Typ) (s : Bytes) (p : Packet) (c : PacketCause) → Spells s p → RefusesPacket E p T c → landing E T s ≡ Sinks (of_cause p.defs c)
refused_sinks E T s p c spells r = looked_at E T s p spells ∙ ap (admitted E p) r

-- where it spells none
by_none : (E : Environment) (T : Typ) (s : Bytes) (o : Option Packet) → packet_of s ≡ o → ((p : Packet) → Spells s p → ⊥) → received E T o ≡ Sinks (unmarshal_failure_exn (codes "format"))
by_none E T s None e none = refl
by_none E T s (Some p) e none = absurd (none p (read_is_spelled s p e))

pub none_sinks : (E : Environment) (T : Typ) (s : Bytes) → ((p : Packet) → Spells s p → ⊥) → landing E T s ≡ Sinks (unmarshal_failure_exn (codes "format"))
unfolding landing
none_sinks E T s none = by_none E T s (packet_of s) refl none
