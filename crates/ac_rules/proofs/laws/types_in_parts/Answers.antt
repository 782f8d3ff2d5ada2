use Rattle.ac_rules.proofs.TabledFaultLaws.{numbers_alike, type_in_head}
use Rattle.ac_rules.proofs.laws.types_in_parts.Goals as goal

pub returns-clause-numbers : goal.returns-clause-numbers
returns-clause-numbers c = numbers_alike

pub returns-clause-heads : goal.returns-clause-heads
returns-clause-heads c = type_in_head
