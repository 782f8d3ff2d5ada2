use Rattle.std.proofs.Common.{◌≡◌, drop, map}
use Rattle.ac_terms.specs.Read.{field_of}
use Rattle.ac_rules.specs.Modules.{field_named}
use Rattle.ac_modules.proofs.lookups.field_named.Given as goal

abbrev pub invariant-loop-x : goal.invariant-loop-x
invariant-loop-x l = field_named l.name (map field_of (drop l.x-index l.fields)) ≡ field_named l.name (map field_of l.fields)
