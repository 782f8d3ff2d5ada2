use Rattle.std.proofs.Common.{ap}
use Rattle.acute_pipe.specs.Senders.{status_in}
use Rattle.acute_top.specs.inner.Piped.{says_receiver}
use Rattle.acute_top.proofs.piping.tell_ran.Goals as goal

pub returns-in-Status : goal.returns-in-Status
returns-in-Status g c = says_receiver c.in-Status.field-0 (ap status_in c.in-Status.is) (rw c.in-Status.is at c.tell_receiver.ensures)
