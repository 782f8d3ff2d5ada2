use Rattle.std.specs.Prelude.{◌≡◌}
use Rattle.ac_machine_engine.specs.States.{Run}
use Rattle.ac_machine_engine.specs.Resumes.{At}
use Rattle.ac_machine_engine.specs.Held.{core, Sound}
use Rattle.ac_machine_engine.specs.Seen.{standing}
use Rattle.ac_machine_table.proofs.going.run.Given as goal

abbrev pub invariant-loop : goal.invariant-loop
invariant-loop l = record {
  sound : Sound l.engine;
  alike : standing l.machine ≡ At (Run (core l.engine));
}
