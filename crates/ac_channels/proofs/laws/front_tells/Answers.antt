use Rattle.ac_channels.proofs.FrontLaws.{front_tells}
use Rattle.ac_channels.proofs.laws.front_tells.Goals as goal

pub returns : goal.returns
returns c = front_tells
