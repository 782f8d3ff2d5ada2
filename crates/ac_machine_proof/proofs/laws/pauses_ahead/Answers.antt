use Rattle.ac_machine_proof.proofs.Pauses.{pauses_ahead}
use Rattle.ac_machine_proof.proofs.laws.pauses_ahead.Goals as goal

pub returns : goal.returns
returns c = pauses_ahead
