use Rattle.std.proofs.Common.{◌≡◌, ◌++◌, drop, map}
use Rattle.ac_code.specs.ReadCode.{instr_of}
use Rattle.ac_text.specs.NumberedLines.{lines_from}
use Rattle.acute_listings.specs.Listing.{instr_line, instr_lines}
use Rattle.acute_listings.proofs.blocks.put_instrs.Given as goal

abbrev pub invariant-loop-address : goal.invariant-loop-address
invariant-loop-address l = l.text.0 ++ lines_from instr_line l.address (drop l.address (map instr_of l.instrs)) ≡ l.initial.text.0 ++ instr_lines (map instr_of l.instrs)
