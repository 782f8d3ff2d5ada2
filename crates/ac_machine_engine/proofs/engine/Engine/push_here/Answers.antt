use Rattle.ac_machine_engine.proofs.HeldLaws.{push_does}
use Rattle.ac_machine_engine.proofs.engine.Engine.push_here.Goals as goal

pub returns-clause-does : goal.returns-clause-does
returns-clause-does c = push_does c.args.self.now c.push.new.self c.in_ok-self.field-0 c.args.v c.requires.sound c.requires.within c.in_ok-self.ensures.ok c.in_ok-self.ensures.number
