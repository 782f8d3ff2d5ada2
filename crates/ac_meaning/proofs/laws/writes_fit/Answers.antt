use Rattle.ac_meaning.proofs.WritesFit.{writes_short, raises_exception}
use Rattle.ac_meaning.proofs.laws.writes_fit.Goals as goal

pub returns-clause-written : goal.returns-clause-written
returns-clause-written c = writes_short

pub returns-clause-raised : goal.returns-clause-raised
returns-clause-raised c = raises_exception
