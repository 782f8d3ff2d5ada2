use Rattle.ac_colours.proofs.Crossed.{run_tells, program_tells}
use Rattle.ac_colours.proofs.laws.crossings_told.Goals as goal

pub returns-clause-kept : goal.returns-clause-kept
returns-clause-kept c = λ T N k s h. run_tells T N k s h

pub returns-clause-throughout : goal.returns-clause-throughout
returns-clause-throughout c = λ E e T p input sends N k. program_tells E e T p input sends N k
