use Rattle.ac_rules.proofs.Rebinding.{rebinding}
use Rattle.ac_rules.proofs.laws.rebinding.Goals as goal

pub returns : goal.returns
returns c = rebinding
