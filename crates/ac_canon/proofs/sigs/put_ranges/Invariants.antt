use Rattle.std.proofs.Common.{◌≡◌, ◌++◌, drop, map}
use Rattle.std.specs.Prelude.{flat_map}
use Rattle.ac_types.specs.ReadTypes.{range_of}
use Rattle.ac_terms.specs.Spelling.{range_bytes}
use Rattle.ac_canon.proofs.sigs.put_ranges.Given as goal

abbrev pub invariant-loop-range : goal.invariant-loop-range
invariant-loop-range l = l.out ++ flat_map range_bytes (map range_of (drop l.range-index l.ranges)) ≡ l.initial.out ++ flat_map range_bytes (map range_of l.ranges)
