-- What a refusal of the code says of a surface.
use Rattle.std.specs.Prelude.{◌≡◌, Some}
use Rattle.sha2.specs.Sha256.{sha256}
use Rattle.ac_terms.specs.Defs.{Environment}
use Rattle.ac_syntax.specs.Trees.{ProgramTree}
use Rattle.ac_resolve_scopes.specs.Surfaces.{surface_fault, Unbound, Repeated, TooMany}
use Rattle.ac_resolve.specs.declared.fault.ScopeFault.{ScopeFault}
use Rattle.ac_resolve.specs.declared.fault.ScopeFault.TheVariants as code

-- the first fault of the surface behind these entries; want of memory is free
abbrev pub RefusesScopes : Environment → ProgramTree → ScopeFault → Type 0
RefusesScopes E p (code.Unbound at) = surface_fault sha256 E p ≡ Some (Unbound at)
RefusesScopes E p (code.Repeated at) = surface_fault sha256 E p ≡ Some (Repeated at)
RefusesScopes E p (code.TooMany count) = surface_fault sha256 E p ≡ Some (TooMany count)
RefusesScopes E p code.Memory = Unit {0}
