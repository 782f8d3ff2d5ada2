use Rattle.ac_terms.specs.Read.{environment_of}
use Rattle.ac_rules.specs.Coherent.{IsCoherent}
use Rattle.ac_load_tests.proofs.packets.check_all.Given as goal

abbrev pub invariant-loop-row : goal.invariant-loop-row
invariant-loop-row g l = IsCoherent (environment_of l.env)
