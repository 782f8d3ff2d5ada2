use Rattle.std.proofs.Common.{◌≡◌, ◌<◌, ℕ, None}
use Rattle.ac_types.specs.Types.{Bytes}
use Rattle.ac_terms.specs.Read.{environment_of}
use Rattle.ac_load_rules.specs.Causes.{clash_of}
use Rattle.ac_load_causes.specs.inner.Named.{number_under, first_told}
use Rattle.ac_load_causes.proofs.clashes.first_entry_clash.Given as goal

abbrev pub invariant-loop-second : goal.invariant-loop-second
invariant-loop-second l = record {
  apart : (j : ℕ) → j < l.second → clash_of (environment_of l.env) j ≡ None;
  firsts : (n : Bytes) → number_under l.firsts n ≡ first_told (environment_of l.env) l.second n;
}
