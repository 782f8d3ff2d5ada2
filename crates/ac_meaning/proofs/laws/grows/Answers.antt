use Rattle.ac_meaning.proofs.Admitted.{grows, value_holds}
use Rattle.ac_meaning.proofs.laws.grows.Goals as goal

pub returns-clause-definitions : goal.returns-clause-definitions
returns-clause-definitions c = grows

pub returns-clause-value : goal.returns-clause-value
returns-clause-value c = value_holds
