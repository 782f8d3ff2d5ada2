use Rattle.ac_meaning.proofs.Admitted.{arrives, rebuilt_alike}
use Rattle.ac_meaning.proofs.laws.rebuilds.Goals as goal

pub returns-clause-typed : goal.returns-clause-typed
returns-clause-typed c = arrives.typed

pub returns-clause-alike : goal.returns-clause-alike
returns-clause-alike c = rebuilt_alike
