-- The faults of packing that those of its steps are.
use Rattle.ac_pack_heads.specs.declared.stop.Stop.{Stop}
use Rattle.ac_pack_heads.specs.declared.stop.Stop.TheVariants as stop
use Rattle.ac_closure.specs.declared.fault.NeedFault.{NeedFault}
use Rattle.ac_closure.specs.declared.fault.NeedFault.TheVariants as need
use Rattle.ac_pack.specs.declared.packing.PackFault.{PackFault}
use Rattle.ac_pack.specs.declared.packing.PackFault.TheVariants as fault

abbrev pub of_stop : Stop → PackFault
of_stop stop.Depth = fault.Depth
of_stop stop.Function = fault.Function
of_stop stop.Size = fault.Size
of_stop stop.Memory = fault.Memory

abbrev pub of_need : NeedFault → PackFault
of_need need.NoMark = fault.Mark
of_need need.Memory = fault.Memory
