use Rattle.std.proofs.Common.{◌≡◌, map, drop}
use Rattle.std.specs.List.{find}
use Rattle.ac_types.specs.Types.{same_bytes}
use Rattle.ac_types.specs.Primitives.{primitive_name}
use Rattle.ac_types.specs.ReadNumbers.{primitive_number}
use Rattle.ac_types.proofs.primitives.called.Given as goal

abbrev pub invariant-loop-primitive : goal.invariant-loop-primitive
invariant-loop-primitive l =
    find (λ k. same_bytes (primitive_name k) l.name) (map primitive_number (drop l.primitive-index l.all))
    ≡ find (λ k. same_bytes (primitive_name k) l.name) (map primitive_number l.all)
