use Rattle.std.proofs.Common.{◌≡◌, drop}
use Rattle.ac_chain.specs.Clashes.{first_program_clash}
use Rattle.ac_chain.specs.ChainTexts.{programs_of}
use Rattle.ac_chain.proofs.clash.first_program_clash.Given as goal

abbrev pub invariant-loop-a : goal.invariant-loop-a
invariant-loop-a l = first_program_clash 0 (programs_of l.programs) ≡ first_program_clash l.a (programs_of (drop l.a l.programs))
