use Rattle.std.proofs.Common.{◌≡◌, ◌≤◌, length, drop}
use Rattle.ac_terms.specs.Read.{environment_of}
use Rattle.ac_code.specs.ReadCode.{table_code}
use Rattle.ac_generate.specs.Generated.{entries_generated}
use Rattle.ac_generate.proofs.entries.generate_entries.Given as goal

abbrev pub invariant-loop-i : goal.invariant-loop-i
invariant-loop-i l = record {
  rest : entries_generated (environment_of l.env) l.i (drop l.i (environment_of l.env)) (table_code l.table) ≡ entries_generated (environment_of l.env) l.first (drop l.first (environment_of l.env)) (table_code l.fn.table);
  within : l.i ≤ length l.env.entries;
}
