-- What a string is to an environment at a type: the verdict of a frame by itself.
use Rattle.std.specs.Prelude.{ℕ, List, [], ◌∷◌, Option, Some, None, option_map, unwrap_or, slice_get}
use Rattle.sha2.specs.Sha256.{sha256}
use Rattle.ac_types.specs.Types.{Bytes, Typ}
use Rattle.ac_terms.specs.Defs.{Environment, Def, AModule, AnImport, AMark, Packet}
use Rattle.ac_terms.specs.Bounds.{Spells}
use Rattle.ac_rules.specs.Packets.{PacketCause, cause}
use Rattle.ac_rules.specs.Packets as packets
use Rattle.ac_audit.specs.declared.verdict.AuditVerdict.{AuditVerdict}
use Rattle.ac_audit.specs.declared.verdict.AuditVerdict.TheVariants.{Accepted, Format, Definition, Clash, Full, Unresolved, WrongType, Value}

-- the external name of a definition
abbrev pub external_name : Def → Bytes
external_name (AModule m) = m.name
external_name (AnImport i) = i.name
external_name (AMark t) = []

abbrev pub external_name_at : List Def → ℕ → Bytes
external_name_at ds i = unwrap_or (option_map external_name (slice_get ds i)) []

-- the verdict of a packet with these definitions, by the first cause that refuses it
abbrev pub verdict_by : List Def → Option PacketCause → AuditVerdict
verdict_by ds None = Accepted
verdict_by ds (Some (packets.Definition i)) = Definition
verdict_by ds (Some (packets.Clash i j)) = Clash
verdict_by ds (Some (packets.Full n)) = Full
verdict_by ds (Some (packets.Unresolved i)) = Unresolved (external_name_at ds i)
verdict_by ds (Some packets.WrongType) = WrongType
verdict_by ds (Some packets.NoValue) = Value

-- the verdict of a packet at a type
abbrev pub packet_verdict : Environment → Packet → Typ → AuditVerdict
packet_verdict E p T = verdict_by p.defs (cause sha256 E p T)

-- the verdict of a string at a type
pub data HasVerdict (E : Environment) (T : Typ) (s : Bytes) : AuditVerdict → Type 0 where
  no_packet : ((p : Packet) → Spells s p → ⊥) → HasVerdict E T s Format
  of_packet : (p : Packet) → Spells s p → HasVerdict E T s (packet_verdict E p T)

-- one verdict for each string, in their order, each of that string by itself
abbrev pub HaveVerdicts : Environment → Typ → List Bytes → List AuditVerdict → Type 0
HaveVerdicts E T [] [] = Unit {0}
HaveVerdicts E T (s ∷ ss) (v ∷ vs) = HasVerdict E T s v × HaveVerdicts E T ss vs
HaveVerdicts E T ss vs = ⊥
