use Rattle.ac_rules.proofs.RoundTrip.{round_trip, marshal_round_trip}
use Rattle.ac_rules.proofs.laws.round_trip.Goals as goal

pub returns-clause-accepted : goal.returns-clause-accepted
returns-clause-accepted c = λ E mark T v coherent packable. round_trip E coherent mark T v packable

pub returns-clause-spelled : goal.returns-clause-spelled
returns-clause-spelled c = λ E mark T v s coherent packable given_string. let r = marshal_round_trip E mark T v s coherent packable given_string in (r.0, r.1, r.2)
