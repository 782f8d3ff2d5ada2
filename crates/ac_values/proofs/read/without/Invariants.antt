use Rattle.std.proofs.Common.{◌≡◌, ◌-◌, ◌<◌, length}
use Rattle.ac_values.specs.Values.{stands_as}
use Rattle.ac_values.specs.ValueReaders.{without}
use Rattle.ac_values.proofs.read.without.Given as goal

abbrev pub invariant-loop : goal.invariant-loop
invariant-loop l = (l.rest.0 < length l.store) × (without l.n (stands_as l.store l.fn.list.0) ≡ without (l.n - l.counter) (stands_as l.store l.rest.0))
