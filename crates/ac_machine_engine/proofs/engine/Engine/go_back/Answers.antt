use Rattle.ac_machine_engine.proofs.HeldLaws.{return_does}
use Rattle.ac_machine_engine.proofs.engine.Engine.go_back.Goals as goal

pub returns : goal.returns
returns c = return_does c.args.self.now c.args.frame c.args.rest c.requires.sound c.requires.older c.requires.frame
