use Rattle.ac_machine_engine.proofs.HeldLaws.{enter_does}
use Rattle.ac_machine_engine.proofs.engine.Engine.enter_here.Goals as goal

pub returns : goal.returns
returns c =
    enter_does c.args.self.now c.push.new.self c.in_ok-self.field-0 c.args.self.now.at.address c.args.block c.args.env _ c.requires.sound c.requires.env c.requires.sound.env c.in_ok-address.ensures c.in_ok-self.ensures.ok c.in_ok-self.ensures.number
