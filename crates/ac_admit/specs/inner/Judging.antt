-- The first four causes, which ask nothing of the type and the value, and the answer of a part of them.
use Rattle.std.specs.Prelude.{◌≡◌, List, [], ◌∷◌, Option, None, Result, Ok, Err}
use Rattle.sha2.specs.Sha256.{sha256}
use Rattle.ac_types.specs.Partial.{first_some}
use Rattle.ac_terms.specs.Defs.{Environment, Def}
use Rattle.ac_rules.specs.Packets.{PacketCause, ill_formed, clash, too_many, unresolved}
use Rattle.ac_admit.specs.declared.fault.AdmitFault.{AdmitFault}
use Rattle.ac_admit.specs.Refusing.{IsFor}

abbrev pub front_cause : Environment → List Def → Option PacketCause
front_cause E ds = first_some (ill_formed sha256 ds ∷ clash sha256 E ds ∷ too_many sha256 E ds ∷ unresolved sha256 E ds ∷ [])

-- nothing applies, or the fault is what applies
abbrev pub Judges : {A : Type 0} → Result A AdmitFault → Option PacketCause → Type 0
Judges (Ok a) o = o ≡ None
Judges (Err f) o = IsFor f o
