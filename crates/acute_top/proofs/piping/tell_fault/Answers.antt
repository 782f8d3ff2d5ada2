use Rattle.std.proofs.Common.{inl, inr, ◌∙◌}
use Rattle.acute_top.proofs.piping.tell_fault.Goals as goal

pub returns-in-Ok : goal.returns-in-Ok
returns-in-Ok g c = inl (rw (c.as_slice.ensures ∙ c.in-Ok.ensures) at c.say.ensures.said)

pub returns-in-Err : goal.returns-in-Err
returns-in-Err g c = inr c.say-in-Err.ensures.said
