use Rattle.ac_version.proofs.VersionSteps.{number_atom, own_atom}
use Rattle.ac_version.proofs.read.atom.Goals as goal

pub returns-in-Ok : goal.returns-in-Ok
returns-in-Ok c = number_atom _ _ _ c.in-Number.is c.in-Ok.ensures.0 c.in-Ok.ensures.1

pub returns-in-MyName : goal.returns-in-MyName
returns-in-MyName c = own_atom _ c.in-MyName.is
