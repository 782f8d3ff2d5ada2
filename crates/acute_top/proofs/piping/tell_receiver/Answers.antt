use Rattle.std.proofs.Common.{[]}
use Rattle.acute_top.proofs.piping.tell_receiver.Goals as goal

pub returns-in-Finished : goal.returns-in-Finished
returns-in-Finished g c = rw c.in-Finished.is (c.tell_end.ensures [] c.new.ensures)

pub returns-in-Uncaught : goal.returns-in-Uncaught
returns-in-Uncaught g c = rw c.in-Uncaught.is (c.tell_end-in-Uncaught.ensures _ c.uncaught_line-line.ensures)

pub returns-in-Spent : goal.returns-in-Spent
returns-in-Spent g c = rw c.in-Spent.is (c.tell_end-in-Spent.ensures _ c.spent_line-line.ensures)
