-- The lines that are printed of a chain that has run.
use Rattle.std.specs.Prelude.{ℕ, Bool, true, false, List, ◌++◌, codes, flat_map}
use Rattle.std.specs.Fmt.{decimal}
use Rattle.ac_types.specs.Types.{Bytes}
use Rattle.ac_text.specs.NumberedLines.{lines_from}
use Rattle.ac_run.specs.declared.end.RunEnd.{RunEnd}
use Rattle.ac_run.specs.declared.end.RunEnd.TheVariants as end
use Rattle.ac_chain.specs.declared.chained.ChainPart.{ChainPart}

-- the status that goes with an end
abbrev pub end_status : RunEnd → ℕ
end_status end.Finished = 0
end_status (end.Uncaught e) = 2
end_status (end.Spent steps) = 3
end_status end.ReadFault = 5
end_status end.WriteFault = 6
end_status end.Memory = 4

-- the line of program k
abbrev pub end_line : ℕ → RunEnd → Bytes
end_line k e = codes "program " ++ (decimal k ++ (codes ": status " ++ (decimal (end_status e) ++ codes "\n")))

-- the line of a string that it read
abbrev pub native_line : Bool → Bytes
native_line true = codes "native\n"
native_line false = codes "foreign\n"

abbrev pub part_lines : ℕ → ChainPart → Bytes
part_lines k part = end_line k part.end ++ flat_map native_line part.native

-- the programs are counted from 1
abbrev pub chain_lines : List ChainPart → Bytes
chain_lines parts = lines_from part_lines 1 parts
