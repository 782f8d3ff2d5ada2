use Rattle.ac_machine_engine.proofs.GivingLaws.{cut_stacks_does}
use Rattle.ac_machine_engine.proofs.engine.Engine.cut_stacks.Goals as goal

pub returns-then-least-len : goal.returns-then-least-len
returns-then-least-len c = cut_stacks_does c.args.self.now c.truncate.new.self c.floor_here-least.result.stacks c.requires.sound c.floor_here-least.ensures.stacks c.truncate.ensures
