use Rattle.ac_meaning.proofs.Runs.{one_end}
use Rattle.ac_meaning.proofs.laws.one_end.Goals as goal

pub returns : goal.returns
returns c = one_end
