use Rattle.ac_syntax.proofs.UniqueTypes.{unique_type}
use Rattle.ac_syntax.proofs.laws.one_type.Goals as goal

pub returns : goal.returns
returns c l ts r s t u p q x y = let d = unique_type p q x y in (d.tree, d.rest)
