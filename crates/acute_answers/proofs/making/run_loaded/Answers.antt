use Rattle.std.proofs.Common.{ap, subst}
use Rattle.std.specs.Prelude.{IfOk}
use Rattle.ac_run.specs.Sessions.{Session, environment, main}
use Rattle.acute_answers.specs.Answers.{answer_of}
use Rattle.acute_answers.specs.inner.Ending.{GivesInEach}
use Rattle.acute_answers.proofs.making.run_loaded.Goals as goal

pub new-requires-clause-typed : goal.new-requires-clause-typed
new-requires-clause-typed c = c.requires.program

pub new-requires-clause-bounds : goal.new-requires-clause-bounds
new-requires-clause-bounds c = c.requires.fits

pub run_session-answer-requires-clause-fresh : goal.run_session-answer-requires-clause-fresh
run_session-answer-requires-clause-fresh c = ap (λ (s : Session). s.end) c.in-Ok.ensures

pub run_session-answer-requires-clause-sends : goal.run_session-answer-requires-clause-sends
run_session-answer-requires-clause-sends c = ap (λ (s : Session). s.sends) c.in-Ok.ensures

pub returns-in-Ok : goal.returns-in-Ok
returns-in-Ok c =
    subst (λ (s : Session). IfOk c.run_session-answer.result (λ a. GivesInEach (environment s) (main s) c.args.modules c.args.bytes s.steps (answer_of a))) c.in-Ok.ensures c.run_session-answer.ensures
