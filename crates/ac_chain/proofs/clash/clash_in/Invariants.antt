use Rattle.std.proofs.Common.{◌≡◌, ◌<◌, ℕ, false}
use Rattle.ac_terms.specs.Read.{environment_of}
use Rattle.ac_chain.specs.Clashes.{is_clash}
use Rattle.ac_chain.proofs.clash.clash_in.Given as goal

abbrev pub invariant-loop-j : goal.invariant-loop-j
invariant-loop-j l = (k : ℕ) → k < l.j → is_clash (environment_of l.env) l.i (environment_of l.other) k ≡ false
