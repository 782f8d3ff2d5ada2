use Rattle.std.proofs.Common.{◌∙◌}
use Rattle.ac_text.proofs.page.Page.number.Goals as goal

pub returns-in-Ok : goal.returns-in-Ok
returns-in-Ok c = rw (c.as_bytes.ensures.value ∙ c.in-Ok.ensures.ok) at c.put.ensures
