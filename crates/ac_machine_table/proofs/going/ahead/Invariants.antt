use Rattle.ac_terms.specs.Read.{environment_of}
use Rattle.ac_code.specs.ReadCode.{table_code}
use Rattle.ac_machine_engine.specs.States.{Run}
use Rattle.ac_machine_engine.specs.Resumes.{At}
use Rattle.ac_machine_engine.specs.Held.{core, Sound}
use Rattle.ac_machine_engine.specs.Runs.{Reaches}
use Rattle.ac_machine_table.proofs.going.ahead.Given as goal

abbrev pub invariant-loop : goal.invariant-loop
invariant-loop l = record {
  sound : Sound l.engine;
  reaches : Reaches (environment_of l.env) (table_code l.table) (At (Run (core l.fn.engine))) (Run (core l.engine));
}
