use Rattle.ac_audit.proofs.TakenLaws.{landed_takes, takes_lands, refused_sinks, none_sinks}
use Rattle.acute_top.proofs.laws.taken_exactly.Goals as goal

pub returns-clause-taken : goal.returns-clause-taken
returns-clause-taken c = λ E T s F v. (landed_takes E T s F v, takes_lands E T s F v)

pub returns-clause-refused : goal.returns-clause-refused
returns-clause-refused c = refused_sinks

pub returns-clause-format : goal.returns-clause-format
returns-clause-format c = none_sinks
