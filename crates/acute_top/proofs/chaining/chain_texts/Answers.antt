use Rattle.acute_top.proofs.ChainedLaws.{delivered_behind, delivered_failed, delivered_lost}
use Rattle.acute_top.proofs.chaining.chain_texts.Goals as goal

pub returns-in-Ok : goal.returns-in-Ok
returns-in-Ok g c = delivered_behind _ _ _ _ _ _ _ _ _ _ _ c.in-Ok.answer c.in-Ok.ensures.later c.in-Ok.ensures.gives _ c.deliver_answer.ensures

pub returns-in-Err-WriteFault : goal.returns-in-Err-WriteFault
returns-in-Err-WriteFault g c = delivered_failed _ _ _ _ _ _ _ _ _ (rw c.in-Err-WriteFault.field-0-is at c.in-Err-WriteFault.ensures.gives) _ c.say.ensures.said

pub returns-in-Err-Memory : goal.returns-in-Err-Memory
returns-in-Err-Memory g c = delivered_lost _ _ _ _ _ _ _ _ _ (rw c.in-Err-Memory.field-0-is at c.in-Err-Memory.ensures.gives) _ c.no_memory.ensures
