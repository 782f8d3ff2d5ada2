use Rattle.ac_machine_proof.proofs.Theorem.{compiles}
use Rattle.ac_machine_proof.proofs.laws.compiles.Goals as goal

pub returns : goal.returns
returns c = compiles
