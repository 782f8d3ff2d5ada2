use Rattle.std.proofs.Common.{◌≡◌, ◌-◌}
use Rattle.ac_values.specs.Values.{stands_as}
use Rattle.ac_values.specs.ValueReaders.{entry}
use Rattle.ac_values.proofs.read.entry.Given as goal

abbrev pub invariant-loop : goal.invariant-loop
invariant-loop l = entry l.i (stands_as l.store l.fn.list.0) ≡ entry (l.i - l.counter) (stands_as l.store l.rest.0)
