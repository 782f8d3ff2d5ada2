use Rattle.std.proofs.Common.{◌≡◌, drop}
use Rattle.ac_closure.specs.inner.Chosen.{with_entries}
use Rattle.ac_closure.proofs.set.add_entries.Given as goal

abbrev pub invariant-loop-j : goal.invariant-loop-j
invariant-loop-j l = with_entries l.set (drop l.j-index l.all) ≡ with_entries l.initial.set l.all
