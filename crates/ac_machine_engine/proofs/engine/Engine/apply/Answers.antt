use Rattle.ac_machine_engine.proofs.engine.Engine.apply.Goals as goal

pub returns : goal.returns
returns c = rw (c.in-Some.ensures.2, c.in-Some-newest.ensures.2) c.call.ensures
