use Rattle.std.proofs.Common.{◌≡◌, ◌≤◌, length, drop}
use Rattle.ac_pack_definitions.specs.inner.Passing.{numbered}
use Rattle.ac_pack_definitions.proofs.numbers.put_places.Given as goal

abbrev pub invariant-loop-i : goal.invariant-loop-i
invariant-loop-i l = record { within : l.i ≤ length l.chosen; so : l.numbers ≡ numbered l.initial.numbers l.i (drop l.i l.chosen) }

abbrev pub decreases-loop-i : goal.decreases-loop-i
decreases-loop-i l = l.i
