use Rattle.std.proofs.Common.{◌≡◌, map, drop}
use Rattle.std.specs.List.{find}
use Rattle.ac_types.specs.Types.{same_bytes}
use Rattle.ac_types.specs.Exceptions.{exception_name}
use Rattle.ac_types.specs.ReadNumbers.{kind_number}
use Rattle.ac_types.proofs.exceptions.called.Given as goal

abbrev pub invariant-loop-kind : goal.invariant-loop-kind
invariant-loop-kind l =
    find (λ k. same_bytes (exception_name k) l.name) (map kind_number (drop l.kind-index l.all))
    ≡ find (λ k. same_bytes (exception_name k) l.name) (map kind_number l.all)
