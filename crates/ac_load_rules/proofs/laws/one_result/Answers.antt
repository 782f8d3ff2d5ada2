use Rattle.ac_load_rules.proofs.OneAnswer.{one_result}
use Rattle.ac_load_rules.proofs.laws.one_result.Goals as goal

pub returns : goal.returns
returns c digest text shelf F G e f T U a b = one_result digest a b
