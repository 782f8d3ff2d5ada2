-- Packets and their verdicts, computed: one for each cause.
use Rattle.std.proofs.Common.{◌≡◌, refl}
use Rattle.std.specs.Prelude.{ℕ, pos, true, List, [], ◌∷◌, codes}
use Rattle.ac_types.specs.Types.{Bytes, Typ, TInt, TBool}
use Rattle.ac_types.specs.Sigs.{MyName}
use Rattle.ac_terms.specs.Terms.{Own, KBool}
use Rattle.ac_terms.specs.Defs.{Environment, Def, AModule, Packet}
use Rattle.ac_terms.proofs.Samples.{number_module, five_packet, pair_type, pair_packet}
use Rattle.ac_rules.specs.Packets.{cause}
use Rattle.ac_rules.proofs.Samples.{sender}
use Rattle.ac_audit.specs.FrameVerdicts.{verdict_by}
use Rattle.ac_audit.specs.declared.verdict.AuditVerdict.{AuditVerdict}
use Rattle.ac_audit.specs.declared.verdict.AuditVerdict.TheVariants.{Accepted, Definition, Clash, Unresolved, WrongType, Value}

-- the digest is the text itself, or the same for all
abbrev itself : Bytes → Bytes
itself b = b

abbrev always : Bytes → Bytes
always b = []

abbrev verdict : (Bytes → Bytes) → Environment → Packet → Typ → AuditVerdict
verdict digest E p T = verdict_by p.defs (cause digest E p T)

abbrev of_int : List Def → Packet
of_int ds = record five_packet { defs = ds }

-- `module M : sig val y : int end = struct val y : int = N end`, and one that reads itself
abbrev number_def : ℕ → Def
number_def n = AModule (number_module (codes "M") (codes "y") (MyName ∷ []) (pos n))

abbrev reading_itself : Def
reading_itself = AModule (record (number_module (codes "M") (codes "y") (MyName ∷ []) (pos 1)) { fields = record { name = codes "y"; ty = TInt; term = Own 0 } ∷ [] })

pub five_is_accepted : verdict itself [] five_packet TInt ≡ Accepted
five_is_accepted = refl

pub five_at_bool : verdict itself [] five_packet TBool ≡ WrongType
five_at_bool = refl

pub no_integer : verdict itself [] (record five_packet { value = KBool true }) TInt ≡ Value
no_integer = refl

pub ill_formed : verdict itself [] (of_int (number_def 1 ∷ reading_itself ∷ [])) TInt ≡ Definition
ill_formed = refl

pub two_of_one_name : verdict always [] (of_int (number_def 1 ∷ number_def 2 ∷ [])) TInt ≡ Clash
two_of_one_name = refl

-- the import M1 has no link; where it came from it has one
pub no_link : verdict itself [] pair_packet pair_type ≡ Unresolved (codes "M1")
no_link = refl

pub sent_to_itself : verdict itself sender pair_packet pair_type ≡ Accepted
sent_to_itself = refl

-- the first cause counts: it has no link, and its type is another
pub no_link_at_int : verdict itself [] pair_packet TInt ≡ Unresolved (codes "M1")
no_link_at_int = refl
