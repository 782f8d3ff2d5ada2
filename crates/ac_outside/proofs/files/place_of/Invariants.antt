use Rattle.ac_outside.specs.inner.FilePlaces.{Passed}
use Rattle.ac_outside.proofs.files.place_of.Given as goal

abbrev pub invariant-loop-i : goal.invariant-loop-i
invariant-loop-i l = Passed l.files l.name l.i
