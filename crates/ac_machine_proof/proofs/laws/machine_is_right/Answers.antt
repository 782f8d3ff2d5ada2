use Rattle.ac_machine_proof.proofs.Theorem.{placed_alike}
use Rattle.ac_machine_proof.proofs.laws.machine_is_right.Goals as goal

pub returns : goal.returns
returns c = placed_alike
