-- Which cause of refusal a fault is.
use Rattle.std.specs.Prelude.{◌≡◌, ⊤, Option, Some}
use Rattle.ac_rules.specs.Packets.{PacketCause, Definition, Clash, Full, Unresolved, WrongType, NoValue}
use Rattle.ac_admit.specs.declared.fault.AdmitFault.{AdmitFault}
use Rattle.ac_admit.specs.declared.fault.AdmitFault.TheVariants as fault

-- the fault is the first cause that applies, or want of memory
abbrev pub IsFor : AdmitFault → Option PacketCause → Type 0
IsFor (fault.Definition i) o = o ≡ Some (Definition i)
IsFor (fault.Clash i j) o = o ≡ Some (Clash i j)
IsFor (fault.Full count) o = o ≡ Some (Full count)
IsFor (fault.Unresolved i) o = o ≡ Some (Unresolved i)
IsFor fault.WrongType o = o ≡ Some WrongType
IsFor fault.Value o = o ≡ Some NoValue
IsFor fault.Memory o = ⊤
