use Rattle.std.proofs.lemmas.Result.{on_ok_weaker}
use Rattle.ac_terms.specs.Read.{environment_of}
use Rattle.ac_code.specs.ReadCode.{table_code}
use Rattle.ac_machine_engine.specs.States.{Run}
use Rattle.ac_machine_engine.specs.Held.{core}
use Rattle.ac_machine.proofs.RunLaws.{reaches_none}
use Rattle.ac_machine_table.proofs.AheadLaws.{on_there, ends_there}
use Rattle.ac_machine_table.proofs.going.ahead.Goals as goal

pub loop-init : goal.loop-init
loop-init c = record { sound = c.requires; reaches = reaches_none (environment_of c.args.env.now) (table_code c.args.table.now) (Run (core c.args.engine.now)) }

pub returns-in-Ok-Pausing-clause-pauses : goal.returns-in-Ok-Pausing-clause-pauses
returns-in-Ok-Pausing-clause-pauses c =
    on_ok_weaker c.there.result
    (λ h. ends_there (environment_of c.args.env.now) (table_code c.args.table.now) c.args.engine.now c.loop.engine c.step.new.engine c.deref.result.now c.loop.invariant.reaches (rw c.deref.ensures (rw c.in-Ok-Pausing.field-0-is at c.in-Ok-Pausing.ensures)) h)
    c.there.ensures

pub loop-preserved : goal.loop-preserved
loop-preserved c =
    let g = rw c.in-Ok-On.field-0-is at c.in-Ok-On.ensures in
    record { sound = g.sound; reaches = on_there (environment_of c.args.env.now) (table_code c.args.table.now) c.args.engine.now c.loop.engine c.step.new.engine c.loop.invariant.reaches g }
