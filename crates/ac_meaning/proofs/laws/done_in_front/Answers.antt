use Rattle.ac_meaning.proofs.ReceiveOrders.{written_in_front, crossed_in_front}
use Rattle.ac_meaning.proofs.laws.done_in_front.Goals as goal

pub returns-clause-written : goal.returns-clause-written
returns-clause-written c = written_in_front

pub returns-clause-crossed : goal.returns-clause-crossed
returns-clause-crossed c = crossed_in_front
