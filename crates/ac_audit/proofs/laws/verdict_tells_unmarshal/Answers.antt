use Rattle.ac_audit.proofs.UnmarshalLaws.{takes, taken, raises}
use Rattle.ac_audit.proofs.laws.verdict_tells_unmarshal.Goals as goal

pub returns-clause-takes : goal.returns-clause-takes
returns-clause-takes c = λ E T s. (takes E T s, taken E T s)

pub returns-clause-raises : goal.returns-clause-raises
returns-clause-raises c = raises
