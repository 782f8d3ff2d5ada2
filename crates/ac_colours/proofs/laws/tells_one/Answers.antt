use Rattle.ac_colours.proofs.TellsOne.{tells_one}
use Rattle.ac_colours.proofs.laws.tells_one.Goals as goal

pub returns : goal.returns
returns c = tells_one
