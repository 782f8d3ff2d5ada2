use Rattle.std.proofs.Common.{◌≡◌, ◌++◌, ◌≤◌, length}
use Rattle.ac_load_causes.specs.inner.Turned.{turned}
use Rattle.ac_load_causes.proofs.links.linked.Given as goal

abbrev pub invariant-loop-env : goal.invariant-loop-env
invariant-loop-env l = record {
  all : l.env.entries ++ turned l.behind.items ≡ l.fn.env.entries;
  within : l.front ≤ length l.env.entries;
}

abbrev pub decreases-loop-env : goal.decreases-loop-env
decreases-loop-env l = length l.env.entries
