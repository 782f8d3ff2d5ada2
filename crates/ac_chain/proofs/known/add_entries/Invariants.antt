use Rattle.std.proofs.Common.{◌<◌, ℕ}
use Rattle.ac_terms.specs.Read.{environment_of}
use Rattle.ac_chain.specs.inner.Known.{KeepsEntry, NamesGrow}
use Rattle.ac_chain.proofs.known.add_entries.Given as goal

abbrev pub invariant-loop-i : goal.invariant-loop-i
invariant-loop-i l = record {
  kept : (k : ℕ) → k < l.i → KeepsEntry (environment_of l.env) k l.known.table;
  grown : NamesGrow l.fn.known.table l.known.table;
}
