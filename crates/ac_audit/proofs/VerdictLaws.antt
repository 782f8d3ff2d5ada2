-- Each string has exactly one verdict at a type.
use Rattle.std.proofs.Common.{◌≡◌, refl, sym, ap, ap₂, ◌∙◌, List, [], ◌∷◌, ◌++◌, Option, Some, None}
use Rattle.sha2.specs.Sha256.{sha256}
use Rattle.ac_types.proofs.FirstLaws.{none≢some}
use Rattle.ac_types.specs.Types.{Bytes, Typ}
use Rattle.ac_terms.specs.Defs.{Environment, Def, Packet}
use Rattle.ac_terms.specs.Bounds.{Spells}
use Rattle.ac_terms.specs.PacketReading.{packet_of}
use Rattle.ac_terms.proofs.DefBack.{spells_one}
use Rattle.ac_terms.proofs.SpelledLaws.{read_is_spelled, spelled_is_read}
use Rattle.ac_rules.specs.Packets.{PacketCause, cause}
use Rattle.ac_rules.specs.Packets as packets
use Rattle.ac_audit.specs.declared.verdict.AuditVerdict.{AuditVerdict}
use Rattle.ac_audit.specs.declared.verdict.AuditVerdict.TheVariants.{Format}
use Rattle.ac_audit.specs.FrameVerdicts.{verdict_by, packet_verdict, HasVerdict, no_packet, of_packet, HaveVerdicts}

pub one_verdict : (E : Environment) (T : Typ) (s : Bytes) (a b : AuditVerdict) → HasVerdict E T s a → HasVerdict E T s b → a ≡ b
one_verdict E T s a b (no_packet n) (no_packet m) = refl
one_verdict E T s a b (no_packet n) (of_packet p h) = absurd (n p h)
one_verdict E T s a b (of_packet p h) (no_packet m) = absurd (m p h)
one_verdict E T s a b (of_packet p h) (of_packet q k) = ap (λ (r : Packet). packet_verdict E r T) (spells_one s p q h k)

pub some_verdict : (E : Environment) (T : Typ) (s : Bytes) → (v : AuditVerdict) × HasVerdict E T s v
some_verdict E T s = by (packet_of s) refl
  where
    by : (o : Option Packet) → packet_of s ≡ o → (v : AuditVerdict) × HasVerdict E T s v
    by None e = (Format, no_packet (λ p h. none≢some (sym e ∙ spelled_is_read s p h)))
    by (Some p) e = (packet_verdict E p T, of_packet p (read_is_spelled s p e))

-- `Format` comes exactly where no packet is spelled
not_format : (ds : List Def) (o : Option PacketCause) → verdict_by ds o ≡ Format → ⊥
not_format ds None e = cc
not_format ds (Some (packets.Definition i)) e = cc
not_format ds (Some (packets.Clash i j)) e = cc
not_format ds (Some (packets.Full n)) e = cc
not_format ds (Some (packets.Unresolved i)) e = cc
not_format ds (Some packets.WrongType) e = cc
not_format ds (Some packets.NoValue) e = cc

of_format : (E : Environment) (T : Typ) (s : Bytes) (v : AuditVerdict) → HasVerdict E T s v → v ≡ Format → (p : Packet) → Spells s p → ⊥
of_format E T s v (no_packet n) e p h = n p h
of_format E T s v (of_packet q k) e p h = not_format q.defs (cause sha256 E q T) e

pub format_is : (E : Environment) (T : Typ) (s : Bytes) → HasVerdict E T s Format → (p : Packet) → Spells s p → ⊥
format_is E T s h = of_format E T s Format h refl

-- lists of verdicts
pub one_list : (E : Environment) (T : Typ) (ss : List Bytes) (a b : List AuditVerdict) → HaveVerdicts E T ss a → HaveVerdicts E T ss b → a ≡ b
one_list E T [] [] [] h k = refl
one_list E T [] [] (v ∷ vs) h k = absurd k
one_list E T [] (v ∷ vs) b h k = absurd h
one_list E T (s ∷ ss) [] b h k = absurd h
one_list E T (s ∷ ss) (v ∷ vs) [] h k = absurd k
one_list E T (s ∷ ss) (v ∷ vs) (w ∷ ws) h k = ap₂ (λ (x : AuditVerdict) (xs : List AuditVerdict). x ∷ xs) (one_verdict E T s v w h.0 k.0) (one_list E T ss vs ws h.1 k.1)

pub have_both : (E : Environment) (T : Typ) (ss : List Bytes) (a : List AuditVerdict) (ts : List Bytes) (b : List AuditVerdict) → HaveVerdicts E T ss a → HaveVerdicts E T ts b → HaveVerdicts E T (ss ++ ts) (a ++ b)
have_both E T [] [] ts b h k = k
have_both E T [] (v ∷ a) ts b h k = absurd h
have_both E T (s ∷ ss) [] ts b h k = absurd h
have_both E T (s ∷ ss) (v ∷ a) ts b h k = (h.0, have_both E T ss a ts b h.1 k)
