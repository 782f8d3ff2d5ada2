use Rattle.ac_syntax.proofs.UniquePrograms.{same_program}
use Rattle.ac_syntax.proofs.laws.one_program.Goals as goal

pub returns : goal.returns
returns c ts p q v w = same_program v w
