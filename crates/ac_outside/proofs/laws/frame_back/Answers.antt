use Rattle.ac_outside.proofs.FrameLaws.{frame_back}
use Rattle.ac_outside.proofs.laws.frame_back.Goals as goal

pub returns : goal.returns
returns c = frame_back
