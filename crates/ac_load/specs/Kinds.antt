-- The causes of refusal as the code tells them.
use Rattle.ac_syntax.specs.declared.fault.ParseFault.{ParseFault}
use Rattle.ac_syntax.specs.declared.fault.ParseFault.TheVariants as parse
use Rattle.ac_resolve_scopes.specs.Surfaces.{SurfaceFault}
use Rattle.ac_resolve_scopes.specs.Surfaces as surface
use Rattle.ac_resolve.specs.declared.fault.ScopeFault.{ScopeFault}
use Rattle.ac_resolve.specs.declared.fault.ScopeFault.TheVariants as scope
use Rattle.ac_load_rules.specs.Causes.{Cause}
use Rattle.ac_load_rules.specs.Causes as cause
use Rattle.ac_load_causes.specs.declared.fault.PartFault.{PartFault}
use Rattle.ac_load_causes.specs.declared.fault.PartFault.TheVariants as part
use Rattle.ac_load.specs.declared.kind.Kind.{Kind}
use Rattle.ac_load.specs.declared.kind.Kind.TheVariants.{TooLong, Lexical, TooDeep, Syntax, Unbound, Repeated, TooMany, IllTyped, Signature, NotValuable, LikeMissing, Unresolved, Clash, Memory}

abbrev pub parse_kind : ParseFault → Kind
parse_kind (parse.TooLong len) = TooLong len
parse_kind (parse.Lexical at) = Lexical at
parse_kind (parse.TooDeep at) = TooDeep at
parse_kind (parse.Syntax at) = Syntax at
parse_kind parse.Memory = Memory

abbrev pub scope_kind : SurfaceFault → Kind
scope_kind (surface.Unbound at) = Unbound at
scope_kind (surface.Repeated at) = Repeated at
scope_kind (surface.TooMany count) = TooMany count

abbrev pub kind_of : Cause → Kind
kind_of (cause.NoTree fault) = parse_kind fault
kind_of (cause.BadScopes fault) = scope_kind fault
kind_of (cause.IllTyped def) = IllTyped def
kind_of (cause.Uncovered def spec) = Signature def spec
kind_of (cause.NotValuable def field) = NotValuable def field
kind_of (cause.LikeMissing def spec) = LikeMissing def spec
kind_of (cause.Unresolved def) = Unresolved def
kind_of (cause.Clash first second) = Clash first second

-- the kind of a cause with P
pub data OfCause (P : Cause → Type 0) : Kind → Type 0 where
  of_cause : {c : Cause} → P c → OfCause P (kind_of c)

-- the faults of the layers
abbrev pub fault_kind : ScopeFault → Kind
fault_kind (scope.Unbound at) = Unbound at
fault_kind (scope.Repeated at) = Repeated at
fault_kind (scope.TooMany count) = TooMany count
fault_kind scope.Memory = Memory

abbrev pub part_kind : PartFault → Kind
part_kind (part.IllTyped def) = IllTyped def
part_kind (part.Signature def spec) = Signature def spec
part_kind (part.NotValuable def field) = NotValuable def field
part_kind (part.LikeMissing def spec) = LikeMissing def spec
part_kind (part.Unresolved def) = Unresolved def
part_kind (part.Clash first second) = Clash first second
part_kind part.Memory = Memory

-- what a kind says; want of memory says nothing
abbrev pub Says : Kind → Type 0 → Type 0
Says Memory P = Unit {0}
Says kind P = P
