use Rattle.ac_meaning.proofs.WriteOrders.{writes_in_order}
use Rattle.ac_meaning.proofs.laws.writes_in_order.Goals as goal

pub returns : goal.returns
returns c = writes_in_order
