use Rattle.std.proofs.Common.{◌≡◌, drop, map}
use Rattle.ac_terms.specs.Read.{environment_of, field_of}
use Rattle.ac_admit_formed.specs.inner.Fields.{are_seen_typed}
use Rattle.ac_admit_formed.proofs.fields.are_typed.Given as goal

abbrev pub invariant-loop-g : goal.invariant-loop-g
invariant-loop-g l = are_seen_typed (environment_of l.env) l.i 0 (map field_of l.fields) ≡ are_seen_typed (environment_of l.env) l.i l.g (map field_of (drop l.g l.fields))
