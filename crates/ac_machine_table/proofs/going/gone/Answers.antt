use Rattle.ac_terms.specs.Read.{environment_of}
use Rattle.ac_code.specs.ReadCode.{table_code}
use Rattle.ac_machine_table.proofs.AheadLaws.{alike}
use Rattle.ac_machine_table.proofs.going.gone.Goals as goal

pub returns-clause-alike : goal.returns-clause-alike
returns-clause-alike c =
    alike (environment_of c.args.env.now) (table_code c.args.table.now) c.args.machine.now c.go-pause.new.self c.args.engine.now c.ahead.new.engine c.go-pause.result c.requires.alike c.in_ok-ahead.ensures.pauses
    c.go-pause.ensures.went c.go-pause.ensures.lost c.in_ok-there.ensures
