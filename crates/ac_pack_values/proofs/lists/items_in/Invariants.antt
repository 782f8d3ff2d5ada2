use Rattle.std.proofs.Common.{◌≡◌, ◌+◌}
use Rattle.std.specs.Prelude.{option_map}
use Rattle.ac_values.specs.Values.{stands_as}
use Rattle.ac_pack_values.specs.inner.Forms.{items_counted}
use Rattle.ac_pack_values.proofs.lists.items_in.Given as goal

abbrev pub invariant-loop-tail : goal.invariant-loop-tail
invariant-loop-tail l = items_counted (stands_as l.store l.fn.list.0) ≡ option_map (λ n. n + l.count) (items_counted (stands_as l.store l.rest.0))

abbrev pub decreases-loop-tail : goal.decreases-loop-tail
decreases-loop-tail l = l.rest.0
