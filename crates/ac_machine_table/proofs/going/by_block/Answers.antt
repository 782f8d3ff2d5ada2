use Rattle.std.proofs.Common.{sym, ap, ◌∙◌, false}
use Rattle.ac_values.specs.Values.{MValue, stands_as}
use Rattle.ac_machine_engine.specs.States.{Run}
use Rattle.ac_machine_engine.specs.Resumes.{with_block}
use Rattle.ac_machine_engine.specs.Held.{core}
use Rattle.ac_machine_engine.specs.Seen.{standing}
use Rattle.ac_machine_engine.specs.Steps.{entering}
use Rattle.ac_machine_table.proofs.AheadLaws.{on_only, answered_at}
use Rattle.ac_machine_table.proofs.going.by_block.Goals as goal

pub returns : goal.returns
returns c =
    let e = c.args.engine.now in
    let d = core e in
    let g = on_only c.enter.new.self c.in_ok-enter.field-0 (entering false 1 (stands_as e.store 0) d) c.in_ok-enter.ensures in (
      g.sound,
      answered_at (with_block 1) (standing c.args.machine.now) (standing c.resume_block.new.self) c.requires.waits.0 d (Run (core c.enter.new.self)) c.requires.waits.2 c.in_ok-resume_block.ensures.ok.2
          (ap (λ (m : MValue). Run (entering false 1 m d)) (sym c.requires.sound.end) ∙ g.is),
    )
