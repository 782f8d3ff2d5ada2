use Rattle.ac_syntax.proofs.UniqueExpressions.{unique}
use Rattle.ac_syntax.proofs.laws.one_expression.Goals as goal

pub returns : goal.returns
returns c l j k ts r s e f p q x y = let d = unique p q x y in (d.tree, d.rest)
