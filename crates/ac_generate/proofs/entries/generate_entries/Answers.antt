use Rattle.std.proofs.Common.{arith}
use Rattle.ac_terms.specs.Read.{environment_of}
use Rattle.ac_code.specs.ReadCode.{table_code}
use Rattle.ac_generate.specs.Generated.{entries_generated}
use Rattle.std.specs.Prelude.{drop}
use Rattle.ac_generate.proofs.EntrySteps.{next_entry}
use Rattle.ac_generate.proofs.entries.generate_entries.Goals as goal

pub loop-i-preserved : goal.loop-i-preserved
loop-i-preserved c =
    let test = c.loop-i-test.true in
    let end = c.len-i-end.ensures in
    record {
      rest = next_entry c.args.env.now c.loop-i.i (table_code c.loop-i.table) (table_code c.generate_entry.new.table) (entries_generated (environment_of c.args.env.now) c.args.first (drop c.args.first (environment_of c.args.env.now)) (table_code c.args.table.now)) (omega (arith, test, end)) (c.in_ok-generate_entry.ensures).ok c.loop-i.invariant.rest;
      within = omega (arith, test, end);
    }
