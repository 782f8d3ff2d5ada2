use Rattle.ac_meaning.proofs.WriteOrders.{only_these_writes}
use Rattle.ac_meaning.proofs.laws.only_these_writes.Goals as goal

pub returns : goal.returns
returns c = only_these_writes
