use Rattle.ac_version.proofs.Printing.{version_again}
use Rattle.ac_version.proofs.laws.version_read_again.Goals as goal

pub returns : goal.returns
returns c = version_again
