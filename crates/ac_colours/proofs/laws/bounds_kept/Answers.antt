use Rattle.ac_colours.proofs.RuledKept.{bounds_kept, bounds_hold}
use Rattle.ac_colours.proofs.laws.bounds_kept.Goals as goal

pub returns-clause-steps : goal.returns-clause-steps
returns-clause-steps c = bounds_kept

pub returns-clause-throughout : goal.returns-clause-throughout
returns-clause-throughout c = bounds_hold
