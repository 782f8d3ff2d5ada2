use Rattle.ac_make.specs.ProgramText.{print_line}
use Rattle.ac_make.proofs.Steps.{one_more}
use Rattle.ac_make.proofs.program.put_prints.Goals as goal

pub loop-i-preserved : goal.loop-i-preserved
loop-i-preserved c = one_more print_line _ _ _ c.loop-i.i c.loop-i.invariant c.in_ok-put_print.ensures
