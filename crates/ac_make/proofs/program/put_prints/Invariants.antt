use Rattle.std.proofs.Common.{◌≡◌, ◌++◌}
use Rattle.ac_make.specs.ProgramText.{print_line, of_each}
use Rattle.ac_make.proofs.program.put_prints.Given as goal

abbrev pub invariant-loop-i : goal.invariant-loop-i
invariant-loop-i l = l.text.0 ≡ l.initial.text.0 ++ of_each print_line l.i
