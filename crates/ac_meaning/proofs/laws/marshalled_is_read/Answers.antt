use Rattle.ac_meaning.proofs.MarshalledRead.{marshalled_is_read, marshalled_is_read_here}
use Rattle.ac_meaning.proofs.laws.marshalled_is_read.Goals as goal

pub returns-clause-here : goal.returns-clause-here
returns-clause-here c = marshalled_is_read_here

pub returns-clause-later : goal.returns-clause-later
returns-clause-later c = marshalled_is_read
