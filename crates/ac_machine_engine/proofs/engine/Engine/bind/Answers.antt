use Rattle.ac_machine_engine.proofs.HeldLaws.{bind_does}
use Rattle.ac_machine_engine.proofs.engine.Engine.bind.Goals as goal

pub returns : goal.returns
returns c = rw c.in-Some.ensures.2 (bind_does _ c.add.new.self c.in_ok-self.field-0 _ c.in_ok-self.ensures)
