use Rattle.ac_terms.proofs.HeadLaws.{packed_spelled}
use Rattle.ac_terms.proofs.HeadNesting.{nest_alike}
use Rattle.ac_terms.proofs.laws.heads_are_the_spelling.Goals as goal

pub returns-clause-bytes : goal.returns-clause-bytes
returns-clause-bytes c = packed_spelled

pub returns-clause-nesting : goal.returns-clause-nesting
returns-clause-nesting c = nest_alike
