use Rattle.ac_round_trip.proofs.NextMarshal.{marshals_a_value}
use Rattle.ac_round_trip.proofs.ComesBack.{bare_gives}
use Rattle.ac_round_trip.proofs.laws.marshals_a_value.Goals as goal

pub returns-clause-runs : goal.returns-clause-runs
returns-clause-runs c = marshals_a_value

pub returns-clause-bare : goal.returns-clause-bare
returns-clause-bare c = bare_gives
