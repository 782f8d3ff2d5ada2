use Rattle.ac_machine_proof.proofs.Theorem.{program_alike}
use Rattle.ac_machine_proof.proofs.laws.program_is_right.Goals as goal

pub returns : goal.returns
returns c = program_alike
