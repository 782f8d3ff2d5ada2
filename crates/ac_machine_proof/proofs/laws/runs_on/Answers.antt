use Rattle.ac_machine_proof.proofs.Pauses.{runs_on}
use Rattle.ac_machine_proof.proofs.laws.runs_on.Goals as goal

pub returns : goal.returns
returns c = runs_on
