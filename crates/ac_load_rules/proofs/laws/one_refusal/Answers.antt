use Rattle.ac_load_rules.proofs.OneAnswer.{one_refused}
use Rattle.ac_load_rules.proofs.laws.one_refusal.Goals as goal

pub returns : goal.returns
returns r digest text shelf k n c d a b = let x = one_refused digest a b in (x.part, x.cause)
