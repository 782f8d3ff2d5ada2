use Rattle.ac_version.proofs.Unique.{same_constraint}
use Rattle.ac_version.proofs.laws.one_constraint.Goals as goal

pub returns : goal.returns
returns c ts rs qs star other p q = let same = same_constraint p q in (same.ranges, same.star)
