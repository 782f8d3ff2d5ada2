use Rattle.ac_syntax.proofs.UniquePatterns.{unique_pat}
use Rattle.ac_syntax.proofs.laws.one_pattern.Goals as goal

pub returns : goal.returns
returns c l ts r s p q v w x y = let d = unique_pat v w x y in (d.tree, d.rest)
