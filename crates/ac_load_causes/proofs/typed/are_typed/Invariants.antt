use Rattle.std.proofs.Common.{◌≡◌, map, drop}
use Rattle.ac_terms.specs.Read.{environment_of, field_of}
use Rattle.ac_rules.specs.Modules.{are_typed}
use Rattle.ac_load_causes.proofs.typed.are_typed.Given as goal

abbrev pub invariant-loop-g : goal.invariant-loop-g
invariant-loop-g l = are_typed (environment_of l.env) l.i 0 (map field_of l.fields) ≡ are_typed (environment_of l.env) l.i l.g (map field_of (drop l.g l.fields))
