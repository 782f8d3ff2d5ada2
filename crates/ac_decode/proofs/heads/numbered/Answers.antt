use Rattle.ac_decode.proofs.Named.{named}
use Rattle.ac_decode.proofs.heads.numbered.Goals as goal

pub returns : goal.returns
returns c = named _ _ c.from_number.ensures
