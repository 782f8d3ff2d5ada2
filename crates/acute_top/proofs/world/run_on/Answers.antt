use Rattle.std.proofs.Common.{rules}
use Rattle.acute_top.proofs.StageLaws.{since_all}
use Rattle.acute_top.proofs.world.run_on.Goals as goal

pub returns-clause-uses : goal.returns-clause-uses
returns-clause-uses g c = let h = since_all g.F.Files _ _ _ _ c.run_at.ensures.uses in search rules
