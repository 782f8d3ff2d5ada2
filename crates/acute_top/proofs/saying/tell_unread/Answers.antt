use Rattle.acute_top.proofs.saying.tell_unread.Goals as goal

pub returns-in-Failed : goal.returns-in-Failed
returns-in-Failed g c = rw c.in-Failed.is c.say.ensures.said
