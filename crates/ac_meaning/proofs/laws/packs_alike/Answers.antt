use Rattle.ac_meaning.proofs.PackedAlike.{packed_alike}
use Rattle.ac_meaning.proofs.laws.packs_alike.Goals as goal

pub returns : goal.returns
returns c = λ mode E c v U T h. packed_alike mode E v c U T h
