use Rattle.lens_explain.specs.Verdicts.{accepted}
use Rattle.lens_explain.proofs.explained.explain.Goals as goal

pub returns-in-Ok-clause-right : goal.returns-in-Ok-clause-right
returns-in-Ok-clause-right c = accepted c.in-Ok.ensures.accepted
