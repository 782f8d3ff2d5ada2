use Rattle.ac_machine_proof.proofs.Pauses.{leads_ahead}
use Rattle.ac_machine_proof.proofs.laws.leads_ahead.Goals as goal

pub returns : goal.returns
returns c = leads_ahead
