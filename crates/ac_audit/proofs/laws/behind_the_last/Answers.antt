use Rattle.ac_audit.proofs.ScopeLaws.{type_behind, fault_behind}
use Rattle.ac_audit.proofs.laws.behind_the_last.Goals as goal

pub returns-clause-means : goal.returns-clause-means
returns-clause-means c = type_behind

pub returns-clause-fault : goal.returns-clause-fault
returns-clause-fault c = fault_behind
