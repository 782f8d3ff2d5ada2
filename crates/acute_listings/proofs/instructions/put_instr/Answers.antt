use Rattle.acute_listings.proofs.instructions.put_instr.Goals as goal

pub returns-in-RecClosure : goal.returns-in-RecClosure
returns-in-RecClosure c = rw c.in-RecClosure.is c.put_numbered-in-RecClosure.ensures
