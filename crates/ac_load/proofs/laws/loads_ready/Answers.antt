use Rattle.ac_load.proofs.Loaded.{loads_ready}
use Rattle.ac_load.proofs.laws.loads_ready.Goals as goal

pub returns : goal.returns
returns c = loads_ready
