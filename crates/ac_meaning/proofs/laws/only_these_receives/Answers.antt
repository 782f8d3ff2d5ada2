use Rattle.ac_meaning.proofs.ReceiveOrders.{only_these_receives}
use Rattle.ac_meaning.proofs.laws.only_these_receives.Goals as goal

pub returns : goal.returns
returns c = only_these_receives
