use Rattle.ac_chain.proofs.RunLaws.{all_ran, all_stopped, not_begun}
use Rattle.ac_chain.proofs.program.run_program.Goals as goal

pub returns-in-Ok-clause-ran : goal.returns-in-Ok-clause-ran
returns-in-Ok-clause-ran g c = all_ran c.args.steps _ c.args.program c.in-Ok.session.machine _ _ _ _ _ _ _ c.in-Ok.ensures c.requires c.run_session-part.result c.run_session-part.ensures.ran

pub returns-in-Ok-clause-stopped : goal.returns-in-Ok-clause-stopped
returns-in-Ok-clause-stopped g c = all_stopped c.args.steps _ c.args.program c.in-Ok.session.machine _ _ _ c.args.made.now c.args.made.now _ _ c.in-Ok.ensures c.requires c.run_session-part.result c.run_session-part.ensures.stopped

pub returns-in-Err-clause-stopped : goal.returns-in-Err-clause-stopped
returns-in-Err-clause-stopped g c = λ mode. not_begun mode c.args.steps _ _ _ _ c.requires.program.coherent
