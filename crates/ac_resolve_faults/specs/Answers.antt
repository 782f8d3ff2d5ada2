-- The faults of the code as those of surfaces.
use Rattle.ac_resolve_faults.specs.declared.fault.FirstFault.{FirstFault}
use Rattle.ac_resolve_faults.specs.declared.fault.FirstFault.TheVariants as code
use Rattle.ac_resolve_scopes.specs.Surfaces.{SurfaceFault, Unbound, Repeated, TooMany}

abbrev pub surface_fault_of : FirstFault → SurfaceFault
surface_fault_of (code.Unbound at) = Unbound at
surface_fault_of (code.Repeated at) = Repeated at
surface_fault_of (code.TooMany count) = TooMany count
