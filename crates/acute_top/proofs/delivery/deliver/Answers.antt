use Rattle.acute_top.specs.inner.Delivered.{delivered}
use Rattle.acute_top.proofs.delivery.deliver.Goals as goal

pub returns-in-Ok : goal.returns-in-Ok
returns-in-Ok g c = delivered _ c.in-Ok.is c.deliver_answer.ensures
