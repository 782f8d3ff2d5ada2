use Rattle.std.proofs.Common.{◌≡◌, ◌+◌, ℕ}
use Rattle.ac_types.specs.ReadTypes.{typ_of}
use Rattle.ac_terms.specs.Read.{environment_of}
use Rattle.ac_rules.specs.Views.{rounds, unsealed}
use Rattle.ac_check.proofs.heads.Heads.end.Given as goal

abbrev pub invariant-loop-before : goal.invariant-loop-before
invariant-loop-before l = (k : ℕ) → rounds (l.before + k) (unsealed (environment_of l.env)) (typ_of l.ty) ≡ rounds k (unsealed (environment_of l.env)) (typ_of l.here)
