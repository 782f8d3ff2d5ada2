use Rattle.ac_meaning.proofs.BeforeWrites.{done_there, said_of_each, crossed_before}
use Rattle.ac_meaning.proofs.laws.done_before_writes.Goals as goal

pub returns-clause-done : goal.returns-clause-done
returns-clause-done c = done_there

pub returns-clause-each : goal.returns-clause-each
returns-clause-each c = said_of_each

pub returns-clause-crossed : goal.returns-clause-crossed
returns-clause-crossed c = crossed_before
