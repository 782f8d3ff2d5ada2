-- What a refusal of the code says of a type in a scope.
use Rattle.std.specs.Prelude.{◌≡◌, Some}
use Rattle.ac_syntax.specs.Trees.{TypeTree}
use Rattle.ac_resolve_scopes.specs.Scopes.{NameScope}
use Rattle.ac_resolve_scopes.specs.Surfaces.{Unbound, TooMany}
use Rattle.ac_resolve.specs.declared.fault.ScopeFault.{ScopeFault}
use Rattle.ac_resolve.specs.declared.fault.ScopeFault.TheVariants as code
use Rattle.ac_audit.specs.TypeTexts.{type_fault}

-- the first fault of the type; no name of a type is repeated, and want of memory is free
abbrev pub RefusesTree : NameScope → TypeTree → ScopeFault → Type 0
RefusesTree S t (code.Unbound at) = type_fault S t ≡ Some (Unbound at)
RefusesTree S t (code.Repeated at) = ⊥
RefusesTree S t (code.TooMany count) = type_fault S t ≡ Some (TooMany count)
RefusesTree S t code.Memory = Unit {0}
