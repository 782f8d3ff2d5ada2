use Rattle.ac_terms.specs.Read.{environment_of}
use Rattle.ac_code.specs.ReadCode.{table_code}
use Rattle.ac_machine_engine.specs.Seen.{standing}
use Rattle.ac_machine_table.proofs.AheadLaws.{pauses_here}
use Rattle.ac_machine_table.proofs.going.ended.Goals as goal

pub go-pause-requires : goal.go-pause-requires
go-pause-requires c _ = pauses_here (environment_of c.args.env.now) (table_code c.args.table.now) (standing c.args.machine.now) c.requires
