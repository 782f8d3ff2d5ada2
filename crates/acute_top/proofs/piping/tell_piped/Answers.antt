use Rattle.acute_top.proofs.piping.tell_piped.Goals as goal

pub returns-in-StartFault : goal.returns-in-StartFault
returns-in-StartFault g c = rw c.in-StartFault.is c.say.ensures.said

pub returns-in-Ran : goal.returns-in-Ran
returns-in-Ran g c = rw c.in-Ran.is c.tell_ran.ensures
