use Rattle.ac_load.proofs.NeverMemory.{never_memory}
use Rattle.ac_load.proofs.laws.never_memory.Goals as goal

pub returns : goal.returns
returns c = never_memory
