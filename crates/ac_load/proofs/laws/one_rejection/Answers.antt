use Rattle.ac_load.proofs.OneRejection.{one_rejected}
use Rattle.ac_load.proofs.laws.one_rejection.Goals as goal

pub returns : goal.returns
returns c = one_rejected
