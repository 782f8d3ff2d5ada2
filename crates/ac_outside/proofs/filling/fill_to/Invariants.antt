use Rattle.std.proofs.Common.{◌≡◌, ◌≤◌, ◌++◌, IsTrue, length}
use Rattle.ac_outside.specs.inner.Filling.{Lengthened}
use Rattle.ac_outside.proofs.filling.fill_to.Given as goal

abbrev pub invariant-loop-i : goal.invariant-loop-i
invariant-loop-i g l =
    (l._i ≤ length l.text.0) × (length l.text.0 ≤ l.want) × Lengthened l.fn.text.0 l.text.0
    × (IsTrue g.S.Source.told → l.fn.text.0 ++ g.S.Source.left l.fn.source ≡ l.text.0 ++ g.S.Source.left l.source)
    × (g.S.Source.read_faults l.fn.source ≤ g.S.Source.read_faults l.source)
    × g.S.Source.passes l.fn.source l.source
