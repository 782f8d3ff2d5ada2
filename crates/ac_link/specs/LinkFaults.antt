-- The faults and origins of the code as those of the rules.
use Rattle.ac_rules.specs.Links.{Link_fault, NoModule, External, Version, Spec, Like, Name, When as Time, AtLoad, InPacket}
use Rattle.ac_link.specs.declared.fault.LinkFault.{LinkFault}
use Rattle.ac_link.specs.declared.fault.LinkFault.TheVariants as fault
use Rattle.ac_link.specs.declared.fault.When.{When}
use Rattle.ac_link.specs.declared.fault.When.TheVariants as time

abbrev pub fault_of : LinkFault → Link_fault
fault_of fault.Kind = NoModule
fault_of fault.External = External
fault_of fault.Version = Version
fault_of (fault.Signature spec) = Spec spec
fault_of (fault.Like spec) = Like spec
fault_of fault.Name = Name

abbrev pub when_of : When → Time
when_of time.Load = AtLoad
when_of time.Packet = InPacket
