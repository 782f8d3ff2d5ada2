use Rattle.ac_rules.proofs.TabledFaultLaws.{tabled_round_trip}
use Rattle.ac_rules.proofs.laws.tabled_round_trip.Goals as goal

pub returns : goal.returns
returns c = tabled_round_trip
