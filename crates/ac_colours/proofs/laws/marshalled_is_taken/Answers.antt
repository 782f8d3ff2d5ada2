use Rattle.ac_colours.proofs.TakenAgain.{taken_again, taken_later}
use Rattle.ac_colours.proofs.laws.marshalled_is_taken.Goals as goal

pub returns-clause-here : goal.returns-clause-here
returns-clause-here c = taken_again

pub returns-clause-later : goal.returns-clause-later
returns-clause-later c = taken_later
