use Rattle.std.proofs.Common.{refl}
use Rattle.ac_machine_engine.proofs.HeldLaws.{keep_does}
use Rattle.ac_machine_engine.proofs.engine.Engine.keep.Goals as goal

pub returns : goal.returns
returns c = keep_does c.args.self.now _ c.args.block.0 c.args.v c.requires.sound c.requires.within c.in_ok-keep_at.ensures refl refl refl refl refl refl refl
