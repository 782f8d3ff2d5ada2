use Rattle.std.proofs.Common.{◌<◌, ℕ, get_or}
use Rattle.ac_terms.specs.Read.{environment_of}
use Rattle.ac_rules.specs.declared.loaded.Loaded.{Loaded}
use Rattle.ac_chain.specs.inner.Known.{KeepsEntries}
use Rattle.ac_chain.proofs.known.have_one_text.Given as goal

abbrev pub invariant-loop-program : goal.invariant-loop-program
invariant-loop-program l = (i : ℕ) (d : Loaded) → i < l.program-index → KeepsEntries (environment_of (get_or l.programs i d).env) l.known.table
