use Rattle.ac_check.proofs.EndLaws.{no_heads}
use Rattle.ac_check.proofs.heads.Heads.new.Goals as goal

pub returns : goal.returns
returns c E = no_heads E (record { found = c.new.result }) c.new.ensures.empty
