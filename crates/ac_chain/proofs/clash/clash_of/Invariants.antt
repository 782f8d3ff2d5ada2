use Rattle.std.proofs.Common.{◌≡◌, ◌+◌, ◌<◌, ℕ, None}
use Rattle.ac_terms.specs.Read.{environment_of}
use Rattle.ac_chain.specs.Clashes.{clash_behind}
use Rattle.ac_chain.specs.ChainTexts.{programs_of}
use Rattle.ac_chain.proofs.clash.clash_of.Given as goal

abbrev pub invariant-loop-i : goal.invariant-loop-i
invariant-loop-i l = (k : ℕ) → k < l.i → clash_behind l.a (environment_of l.env) k (l.a + 1) (programs_of l.later) ≡ None
