use Rattle.ac_meaning.proofs.ReceiveOrders.{receives_in_order}
use Rattle.ac_meaning.proofs.laws.receives_in_order.Goals as goal

pub returns : goal.returns
returns c = receives_in_order
