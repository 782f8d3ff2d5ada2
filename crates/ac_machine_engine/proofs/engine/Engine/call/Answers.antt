use Rattle.ac_machine_engine.proofs.CallLaws.{apply_does}
use Rattle.ac_machine_engine.proofs.engine.Engine.call.Goals as goal

pub returns : goal.returns
returns c =
    rw (
      c.in-Some.ensures.2,
      apply_does c.args.self.now c.own_env.new.self c.add.new.self c.args.argument c.args.function c.in-Some.env c.in_ok-own.own c.in_ok-full.full c.args.rest c.in-Some.block.0 c.in-Some.recursive c.requires.sound c.requires.argument c.in-Some.ensures.0
          c.in-Some.ensures.2 c.in_ok-own.ensures c.in_ok-full.ensures c.if-self.false,
    )
    c.in_ok-step.ensures
