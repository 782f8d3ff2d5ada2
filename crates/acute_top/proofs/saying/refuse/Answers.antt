use Rattle.std.proofs.Common.{inl, ◌∙◌}
use Rattle.acute_top.proofs.saying.refuse.Goals as goal

pub returns-in-Ok : goal.returns-in-Ok
returns-in-Ok g c = inl (rw (c.as_slice.ensures ∙ c.in-Ok.ensures.line) at c.say.ensures.said, c.in-Ok.ensures.cause)
