use Rattle.acute_answers.proofs.TextLaws.{one}
use Rattle.acute_top.proofs.laws.one_meaning.Goals as goal

pub returns : goal.returns
returns c = λ m n text shelf steps input sends a b good few x y. one m n good few x y
