use Rattle.std.proofs.Common.{◌≡◌, ◌≤◌, ◌++◌, length, map, reverse}
use Rattle.ac_terms.specs.Read.{entry_of}
use Rattle.ac_closure.specs.inner.Names.{entry_named}
use Rattle.ac_closure.specs.inner.Pass.{chosen_below}
use Rattle.ac_closure.proofs.closing.chosen_of.Given as goal

abbrev pub invariant-loop-k : goal.invariant-loop-k
invariant-loop-k l = record {
  within : l.k ≤ length l.entries;
  flags : length l.set ≡ length l.entries;
  left :
      chosen_below (entry_named l.names) (map entry_of l.entries) l.mark l.k l.set ++ reverse l.chosen.items
      ≡ chosen_below (entry_named l.names) (map entry_of l.entries) l.mark (length l.entries) l.initial.set;
}

abbrev pub decreases-loop-k : goal.decreases-loop-k
decreases-loop-k l = l.k
