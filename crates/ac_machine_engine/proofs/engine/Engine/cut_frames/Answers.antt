use Rattle.ac_machine_engine.proofs.GivingLaws.{cut_frames_does}
use Rattle.ac_machine_engine.proofs.engine.Engine.cut_frames.Goals as goal

pub returns-then-least-len : goal.returns-then-least-len
returns-then-least-len c = cut_frames_does c.args.self.now c.truncate.new.self c.floor_here-least.result.frames c.requires.sound c.floor_here-least.ensures.frames c.truncate.ensures
