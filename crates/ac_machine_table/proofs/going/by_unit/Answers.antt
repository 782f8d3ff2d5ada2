use Rattle.ac_values.specs.Values.{MUnit}
use Rattle.ac_machine_engine.specs.States.{Run, push_value}
use Rattle.ac_machine_engine.specs.Resumes.{with_unit}
use Rattle.ac_machine_engine.specs.Held.{core}
use Rattle.ac_machine_engine.specs.Seen.{standing}
use Rattle.ac_machine_table.proofs.AheadLaws.{on_only, answered_at}
use Rattle.ac_machine_table.proofs.going.by_unit.Goals as goal

pub returns : goal.returns
returns c =
    let d = core c.args.engine.now in
    let g = on_only c.push_node.new.self c.in_ok-push_node.field-0 (push_value MUnit d) c.in_ok-push_node.ensures.does in
    (g.sound, answered_at with_unit (standing c.args.machine.now) (standing c.resume_unit.new.self) c.requires.waits.0 d (Run (core c.push_node.new.self)) c.requires.waits.2 c.in_ok-resume_unit.ensures.ok.2 g.is)
