use Rattle.ac_load.proofs.Loaded.{not_rejected}
use Rattle.ac_load.proofs.laws.not_both.Goals as goal

pub returns : goal.returns
returns c = not_rejected
