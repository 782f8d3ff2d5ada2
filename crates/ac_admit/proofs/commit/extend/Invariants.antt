use Rattle.std.proofs.Common.{◌≡◌, ◌++◌, ◌≤◌, length, reverse}
use Rattle.ac_admit.proofs.commit.extend.Given as goal

-- the entries so far and those that are left are all of them
abbrev pub invariant-loop-entry : goal.invariant-loop-entry
invariant-loop-entry l = record {
  all : l.env.entries ++ reverse l.left.items ≡ l.fn.env.entries ++ l.fn.more;
  within : length l.fn.env.entries ≤ length l.env.entries;
}

abbrev pub decreases-loop-entry : goal.decreases-loop-entry
decreases-loop-entry l = length l.left.items
