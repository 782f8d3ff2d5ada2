use Rattle.ac_machine_proof.proofs.Theorem.{program_is_placed}
use Rattle.ac_machine_proof.proofs.laws.code_is_placed.Goals as goal

pub returns : goal.returns
returns c = program_is_placed
