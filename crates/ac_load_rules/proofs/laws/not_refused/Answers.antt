use Rattle.ac_load_rules.proofs.OneAnswer.{not_both}
use Rattle.ac_load_rules.proofs.laws.not_refused.Goals as goal

pub returns : goal.returns
returns c digest text shelf part cause F e T r a = not_both digest r a
