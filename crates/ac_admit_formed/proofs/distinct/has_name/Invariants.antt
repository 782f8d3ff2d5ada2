use Rattle.std.proofs.Common.{◌≡◌, drop, map}
use Rattle.std.specs.List.{list_any}
use Rattle.ac_types.specs.Types.{same_bytes}
use Rattle.ac_admit_formed.proofs.distinct.has_name.Given as goal

abbrev pub invariant-loop-x : goal.invariant-loop-x
invariant-loop-x g l = list_any (same_bytes l.name) (map g.T.Named.named l.xs) ≡ list_any (same_bytes l.name) (map g.T.Named.named (drop l.x-index l.xs))
