use Rattle.ac_version.proofs.Unique.{same_version}
use Rattle.ac_version.proofs.laws.one_version.Goals as goal

pub returns : goal.returns
returns c ts xs ys p q = same_version p q
