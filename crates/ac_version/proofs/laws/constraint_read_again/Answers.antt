use Rattle.ac_version.proofs.Printing.{constraint_again}
use Rattle.ac_version.proofs.laws.constraint_read_again.Goals as goal

pub returns : goal.returns
returns c = constraint_again
