use Rattle.ac_load_rules.proofs.Coherence.{accepted_ready}
use Rattle.ac_load_rules.proofs.laws.accepted_ready.Goals as goal

pub returns : goal.returns
returns c = accepted_ready
