use Rattle.acute_answers.proofs.TextLaws.{some_meaning}
use Rattle.acute_top.proofs.laws.some_meaning.Goals as goal

pub returns : goal.returns
returns c = some_meaning
