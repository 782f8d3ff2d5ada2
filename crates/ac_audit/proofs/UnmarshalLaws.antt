-- A verdict tells what `unmarshal` does with the string over the same definitions.
use Rattle.std.proofs.Common.{◌≡◌, refl, sym, ap, ◌∙◌, subst, ℕ, List, Option, Some, None}
use Rattle.std.specs.Prelude.{[], option_map, slice_get, unwrap_or}
use Rattle.sha2.specs.Sha256.{sha256}
use Rattle.ac_types.proofs.FirstLaws.{none≢some, some_eq}
use Rattle.ac_types.specs.Types.{Bytes, Typ}
use Rattle.ac_terms.specs.Terms.{PValue}
use Rattle.ac_terms.specs.Defs.{Environment, Def, Packet}
use Rattle.ac_terms.specs.Bounds.{Spells}
use Rattle.ac_rules.specs.Packets.{PacketCause, cause, places, value_there}
use Rattle.ac_rules.specs.Packets as packets
use Rattle.ac_meaning.specs.Worlds.{Exception}
use Rattle.ac_meaning.specs.Packing.{Lands, Sinks, landing, import_name, of_cause, resolve_failure_exn}
use Rattle.ac_audit.specs.declared.verdict.AuditVerdict.{AuditVerdict}
use Rattle.ac_audit.specs.declared.verdict.AuditVerdict.TheVariants.{Accepted}
use Rattle.ac_audit.specs.Exceptions.{exception_of}
use Rattle.ac_audit.specs.FrameVerdicts.{external_name, external_name_at, verdict_by, HasVerdict, no_packet, of_packet}
use Rattle.ac_audit.proofs.CauseLaws.{HasImport, import_there}
use Rattle.ac_audit.proofs.TakenLaws.{landed_takes, takes_lands, refused_sinks, none_sinks}

-- the exception of each cause; the import that has no link tells its name
same_name : (ds : List Def) (i : ℕ) → HasImport ds i → resolve_failure_exn (unwrap_or (option_map import_name (slice_get ds i)) []) ≡ resolve_failure_exn (external_name_at ds i)
same_name ds i h =
    ap (λ (o : Option Def). resolve_failure_exn (unwrap_or (option_map import_name o) [])) h.there
    ∙ sym (ap (λ (o : Option Def). resolve_failure_exn (unwrap_or (option_map external_name o) [])) h.there)

named_by : (E : Environment) (p : Packet) (T : Typ) (x : Exception) (c : PacketCause) → cause sha256 E p T ≡ Some c → exception_of (verdict_by p.defs (Some c)) ≡ Some x → of_cause p.defs c ≡ x
named_by E p T x (packets.Definition i) e q = some_eq q
named_by E p T x (packets.Clash i j) e q = some_eq q
named_by E p T x (packets.Full n) e q = some_eq q
named_by E p T x (packets.Unresolved i) e q = same_name p.defs i (import_there E p T i e) ∙ some_eq q
named_by E p T x packets.WrongType e q = some_eq q
named_by E p T x packets.NoValue e q = some_eq q

by_cause : (E : Environment) (T : Typ) (s : Bytes) (p : Packet) (x : Exception) → Spells s p → (c : Option PacketCause) → cause sha256 E p T ≡ c → exception_of (verdict_by p.defs c) ≡ Some x → landing E T s ≡ Sinks x
by_cause E T s p x h None e q = absurd (none≢some q)
by_cause E T s p x h (Some c) e q = refused_sinks E T s p c h e ∙ ap Sinks (named_by E p T x c e q)

pub raises : (E : Environment) (T : Typ) (s : Bytes) (v : AuditVerdict) (x : Exception) → HasVerdict E T s v → exception_of v ≡ Some x → landing E T s ≡ Sinks x
raises E T s v x (no_packet none) q = none_sinks E T s none ∙ ap Sinks (some_eq q)
raises E T s v x (of_packet p h) q = by_cause E T s p x h (cause sha256 E p T) refl q

-- what is accepted is taken
abbrev pub IsTaken : Environment → Typ → Bytes → Type 0
IsTaken E T s = (F : Environment) × (v : PValue) × (landing E T s ≡ Lands F v)

-- a packet that is accepted has no cause
pub none_applies : (ds : List Def) (c : Option PacketCause) → verdict_by ds c ≡ Accepted → c ≡ None
none_applies ds None e = refl
none_applies ds (Some (packets.Definition i)) e = absurd (cc)
none_applies ds (Some (packets.Clash i j)) e = absurd (cc)
none_applies ds (Some (packets.Full n)) e = absurd (cc)
none_applies ds (Some (packets.Unresolved i)) e = absurd (cc)
none_applies ds (Some packets.WrongType) e = absurd (cc)
none_applies ds (Some packets.NoValue) e = absurd (cc)

takes_by : (E : Environment) (T : Typ) (s : Bytes) (v : AuditVerdict) → HasVerdict E T s v → v ≡ Accepted → IsTaken E T s
takes_by E T s v (no_packet none) e = absurd (cc)
takes_by E T s v (of_packet p h) e =
    let F : Environment = (places sha256 E p.defs).0 in
    let w : PValue = value_there sha256 E p in
    (F, w, takes_lands E T s F w (p, h, record { no_cause = none_applies p.defs (cause sha256 E p T) e; entries = refl; value = refl }))

pub takes : (E : Environment) (T : Typ) (s : Bytes) → HasVerdict E T s Accepted → IsTaken E T s
takes E T s h = takes_by E T s Accepted h refl

-- and what is taken is accepted
pub taken : (E : Environment) (T : Typ) (s : Bytes) → IsTaken E T s → HasVerdict E T s Accepted
taken E T s (F, w, lands) =
    let (p, h, accepts) = landed_takes E T s F w lands in
    subst (HasVerdict E T s) (ap (verdict_by p.defs) accepts.no_cause) (of_packet p h)
