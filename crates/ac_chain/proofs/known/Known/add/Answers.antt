use Rattle.ac_chain.proofs.KnownLaws.{adds}
use Rattle.ac_chain.proofs.known.Known.add.Goals as goal

pub returns-in-Ok-clause-keeps : goal.returns-in-Ok-clause-keeps
returns-in-Ok-clause-keeps c = λ same. (adds _ _ _ _ _ c.in-Ok.ensures.ok).0

pub returns-in-Ok-clause-grows : goal.returns-in-Ok-clause-grows
returns-in-Ok-clause-grows c = (adds _ _ _ _ _ c.in-Ok.ensures.ok).1
