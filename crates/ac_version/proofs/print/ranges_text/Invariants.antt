use Rattle.std.proofs.Common.{◌≡◌, ◌++◌, drop, map}
use Rattle.ac_types.specs.ReadTypes.{range_of}
use Rattle.ac_version.specs.Printing.{tokens_joined, ranges_tokens, constraint_tokens}
use Rattle.ac_version.proofs.print.ranges_text.Given as goal

abbrev pub invariant-loop-range : goal.invariant-loop-range
invariant-loop-range l =
    tokens_joined (constraint_tokens (map range_of l.ranges) l.star)
    ≡ l.text.0 ++ tokens_joined (ranges_tokens l.is_first (map range_of (drop l.range-index l.ranges)) l.star)
