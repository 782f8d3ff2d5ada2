use Rattle.acute_top.proofs.StageLaws.{no_use}
use Rattle.acute_top.proofs.world.run_among.Goals as goal

pub returns-else-is_file-2-clause-uses : goal.returns-else-is_file-2-clause-uses
returns-else-is_file-2-clause-uses g c = no_use g.F.Files _ _ _
