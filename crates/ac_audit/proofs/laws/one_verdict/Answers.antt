use Rattle.ac_audit.specs.FrameVerdicts.{no_packet}
use Rattle.ac_audit.proofs.VerdictLaws.{some_verdict, one_verdict, one_list, format_is}
use Rattle.ac_audit.proofs.laws.one_verdict.Goals as goal

pub returns-clause-some : goal.returns-clause-some
returns-clause-some c = some_verdict

pub returns-clause-one : goal.returns-clause-one
returns-clause-one c = one_verdict

pub returns-clause-lists : goal.returns-clause-lists
returns-clause-lists c = one_list

pub returns-clause-format : goal.returns-clause-format
returns-clause-format c = λ E T s. (format_is E T s, no_packet)
