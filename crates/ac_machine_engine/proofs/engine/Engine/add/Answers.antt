use Rattle.ac_machine_engine.proofs.HeldLaws.{adds}
use Rattle.ac_machine_engine.proofs.engine.Engine.add.Goals as goal

pub returns : goal.returns
returns c = adds c.args.self.now c.push.new.self c.args.node c.in_ok-v.v c.requires.sound c.in_ok-v.ensures.ok c.in_ok-v.ensures.number
