-- What is wrong with a type in a scope, and what the faults of the code say of a text.
use Rattle.std.specs.Prelude.{None}
use Rattle.ac_types.specs.Types.{Bytes}
use Rattle.ac_syntax.specs.Trees.{TypeTree}
use Rattle.ac_syntax.specs.declared.fault.ParseFault.{ParseFault}
use Rattle.ac_syntax.specs.declared.fault.ParseFault.TheVariants as fault
use Rattle.ac_resolve_scopes.specs.Scopes.{NameScope}
use Rattle.ac_resolve_scopes.specs.Unbound.{unbound_type}
use Rattle.ac_resolve_scopes.specs.Counts.{large_type}
use Rattle.ac_resolve_signatures.specs.declared.flaws.Flaws.{Flaws}
use Rattle.ac_audit.specs.TypeTexts.{RefusedTree}

-- of each kind the first
abbrev pub type_faults : NameScope → TypeTree → Flaws
type_faults S t = record { unbound = unbound_type S t; repeated = None; count = large_type S t }

-- the text has no tree as a type; want of memory is free
abbrev pub IsTreeFault : Bytes → ParseFault → Type 0
IsTreeFault text fault.Memory = Unit {0}
IsTreeFault text e = RefusedTree text e
