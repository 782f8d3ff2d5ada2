use Rattle.std.proofs.Common.{◌≡◌, drop, map}
use Rattle.ac_rules.specs.Modules.{are_distinct}
use Rattle.ac_admit_formed.proofs.distinct.are_distinct.Given as goal

abbrev pub invariant-loop-i : goal.invariant-loop-i
invariant-loop-i g l = are_distinct (map g.T.Named.named l.xs) ≡ are_distinct (map g.T.Named.named (drop l.i l.xs))
