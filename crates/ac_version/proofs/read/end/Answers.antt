use Rattle.ac_version.proofs.RangeSteps.{ends_here, ends_with_star}
use Rattle.ac_version.proofs.read.end.Goals as goal

pub returns-in-None : goal.returns-in-None
returns-in-None c = ends_here _ c.in-None.ensures.first

pub returns-then-is_star : goal.returns-then-is_star
returns-then-is_star c = ends_with_star _ _ c.in-Some.ensures.found c.if-is_star.ensures
