use Rattle.std.proofs.Common.{◌≡◌, ◌+◌, ◌++◌, drop}
use Rattle.ac_text.specs.NumberedLines.{lines_from}
use Rattle.ac_chain.specs.StringLines.{part_lines}
use Rattle.ac_chain.proofs.printing.lines.Given as goal

abbrev pub invariant-loop-k : goal.invariant-loop-k
invariant-loop-k l = lines_from part_lines 1 l.parts ≡ l.text.0 ++ lines_from part_lines (l.k + 1) (drop l.k l.parts)
