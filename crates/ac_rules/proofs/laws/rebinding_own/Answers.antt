use Rattle.ac_rules.proofs.RebindingOwn.{rebinding_own}
use Rattle.ac_rules.proofs.laws.rebinding_own.Goals as goal

pub returns : goal.returns
returns c = λ E F p T widens e_coherent f_coherent fits no_cause. rebinding_own E F widens e_coherent f_coherent p T fits no_cause
