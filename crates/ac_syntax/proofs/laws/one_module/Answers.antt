use Rattle.ac_syntax.proofs.UniquePrograms.{same_module}
use Rattle.ac_syntax.proofs.laws.one_module.Goals as goal

pub returns : goal.returns
returns c ts p q v w = same_module v w
