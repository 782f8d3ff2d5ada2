use Rattle.ac_syntax.proofs.UniquePrograms.{same_sig}
use Rattle.ac_syntax.proofs.laws.one_signature.Goals as goal

pub returns : goal.returns
returns c ts r s a b p q = let d = same_sig p q in (d.tree, d.rest)
