use Rattle.ac_round_trip.proofs.OneCopy.{one_copy}
use Rattle.ac_round_trip.proofs.laws.one_copy.Goals as goal

pub returns : goal.returns
returns c = λ mode E F f c d T v w x p q. one_copy mode E F f p q
