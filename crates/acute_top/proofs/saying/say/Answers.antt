use Rattle.std.proofs.Common.{refl}
use Rattle.acute_top.specs.Saying.{said, failed, no_memory}
use Rattle.acute_top.proofs.saying.say.Goals as goal

pub returns-in-Done-clause-said : goal.returns-in-Done-clause-said
returns-in-Done-clause-said g c = said (λ told. c.in-Done.ensures.bytes told)

pub returns-in-Failed-clause-said : goal.returns-in-Failed-clause-said
returns-in-Failed-clause-said g c = failed (c.in-Failed.ensures.cause refl) (λ told. c.in-Failed.ensures.bytes told)

pub returns-in-Memory-clause-said : goal.returns-in-Memory-clause-said
returns-in-Memory-clause-said g c = no_memory (λ told. c.in-Memory.ensures.bytes told)
