use Rattle.lens_explain.specs.Verdicts.{accepted_module}
use Rattle.lens_explain.proofs.Right.{only_text}
use Rattle.lens_explain.proofs.module.explain_module.Goals as goal

pub returns-in-Ok-clause-right : goal.returns-in-Ok-clause-right
returns-in-Ok-clause-right c = λ shelf h. accepted_module (only_text _ _ c.in_ok-shelf.ensures.texts) c.in-Ok.ensures.accepted
