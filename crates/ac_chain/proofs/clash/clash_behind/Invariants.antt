use Rattle.std.proofs.Common.{◌≡◌, ◌+◌, drop}
use Rattle.ac_terms.specs.Read.{environment_of}
use Rattle.ac_chain.specs.Clashes.{clash_behind}
use Rattle.ac_chain.specs.ChainTexts.{programs_of}
use Rattle.ac_chain.proofs.clash.clash_behind.Given as goal

abbrev pub invariant-loop-k : goal.invariant-loop-k
invariant-loop-k l = clash_behind l.a (environment_of l.env) l.i (l.a + 1) (programs_of l.later) ≡ clash_behind l.a (environment_of l.env) l.i (l.a + 1 + l.k) (programs_of (drop l.k l.later))
