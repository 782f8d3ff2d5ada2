-- From a string to a packed value over the definitions, or to the exception of a fault.
use Rattle.std.specs.Prelude.{◌≡◌, Option, Some, None, Result, Ok, Err, IsTrue, codes}
use Rattle.ac_terms.specs.Defs.{Environment, Packet}
use Rattle.ac_terms.specs.Bounds.{fits_packet}
use Rattle.ac_terms.specs.Read.{value_of, packet_of}
use Rattle.ac_terms.specs.declared.def.Packet as code_packet
use Rattle.ac_terms.specs.declared.term.PVal.{PVal}
use Rattle.ac_rules.specs.Faults.{Fault, NoMark, Depth, Function, Size}
use Rattle.ac_rules.specs.Packets.{PacketCause, Definition, Clash, Full, Unresolved, WrongType, NoValue}
use Rattle.ac_meaning.specs.Worlds.{Exception}
use Rattle.ac_meaning.specs.Packing.{Landing, Sinks, Lands, unmarshal_failure_exn}
use Rattle.ac_meaning.specs.ReadExn.{exn_of}
use Rattle.ac_admit.specs.declared.fault.AdmitFault.{AdmitFault}
use Rattle.ac_admit.specs.declared.fault.AdmitFault.TheVariants as admit_fault
use Rattle.ac_pack.specs.declared.packing.PackFault.{PackFault}
use Rattle.ac_pack.specs.declared.packing.PackFault.TheVariants as pack_fault
use Rattle.ac_pack.specs.declared.fault.CrossFault.{CrossFault}
use Rattle.ac_pack.specs.declared.fault.CrossFault.TheVariants as fault

-- it is this exception, or memory ran out
abbrev pub IsRaised : Exception → CrossFault → Type 0
IsRaised x (fault.Raise e) = exn_of e ≡ x
IsRaised x fault.Memory = Unit {0}

-- why a value is not packed; want of memory is no reason
abbrev pub fault_told : PackFault → Option Fault
fault_told pack_fault.Mark = Some NoMark
fault_told pack_fault.Function = Some Function
fault_told pack_fault.Depth = Some Depth
fault_told pack_fault.Size = Some Size
fault_told pack_fault.Memory = None

-- why a packet is refused; want of memory is no reason
abbrev pub cause_told : AdmitFault → Option PacketCause
cause_told (admit_fault.Definition i) = Some (Definition i)
cause_told (admit_fault.Clash i j) = Some (Clash i j)
cause_told (admit_fault.Full count) = Some (Full count)
cause_told (admit_fault.Unresolved i) = Some (Unresolved i)
cause_told admit_fault.WrongType = Some WrongType
cause_told admit_fault.Value = Some NoValue
cause_told admit_fault.Memory = None

-- the packet that there is, or the exception of why there is none
abbrev pub HasRead : Option Packet → Result code_packet.Packet CrossFault → Type 0
HasRead o (Ok p) = (o ≡ Some (packet_of p)) × IsTrue (fits_packet (packet_of p))
HasRead o (Err (fault.Raise e)) = (o ≡ None) × (exn_of e ≡ unmarshal_failure_exn (codes "format"))
HasRead o (Err fault.Memory) = Unit {0}

-- the value that lands over F, or the exception of why none does, and F is E
abbrev pub Landed : Landing → Environment → Environment → Result PVal CrossFault → Type 0
Landed l E F (Ok v) = l ≡ Lands F (value_of v)
Landed l E F (Err (fault.Raise e)) = (l ≡ Sinks (exn_of e)) × (F ≡ E)
Landed l E F (Err fault.Memory) = Unit {0}
