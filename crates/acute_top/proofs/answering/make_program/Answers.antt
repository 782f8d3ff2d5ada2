use Rattle.acute_top.proofs.AnswerLaws.{answered}
use Rattle.acute_top.proofs.answering.make_program.Goals as goal

pub returns : goal.returns
returns g c = λ files. answered _ files _ _ c.make_answer-found.result c.make_answer-found.ensures _ c.deliver.ensures
