-- What is said of the end of a pipe.
use Rattle.std.specs.Prelude.{◌≡◌, ◌⊎◌, ℤ, Bool, List, ℕ, [], ◌++◌, Option, Some}
use Rattle.ac_meaning.specs.ReadExn.{exn_of}
use Rattle.ac_run.specs.declared.end.RunEnd.{RunEnd}
use Rattle.ac_run.specs.declared.end.RunEnd.TheVariants as receiver
use Rattle.ac_spawn.specs.declared.spawner.Ended.{Ended}
use Rattle.ac_pipe.specs.PipeEnds.{IsReadFault}
use Rattle.ac_pipe.specs.declared.end.PipeEnd.{PipeEnd}
use Rattle.ac_pipe.specs.declared.end.PipeEnd.TheVariants as pipe
use Rattle.acute_answers.specs.declared.status.Status.{Status}
use Rattle.acute_answers.specs.declared.status.TheConstants.Status.{FINISHED, UNCAUGHT, SPENT, OUT_OF_MEMORY, READ_FAULT, WRITE_FAULT, START_FAULT}
use Rattle.acute_answers.specs.Lines.{uncaught_line, spent_line}
use Rattle.acute_pipe.specs.Senders.{sender_line, status_in}
use Rattle.acute_top.specs.Streams.{Writing, read_line, write_line, memory_line, start_line}
use Rattle.acute_top.specs.Saying.{Said, SaidIfAny}
use Rattle.acute_top.specs.PipeEndings.{SaidWithSender}

-- the line of an end, and behind it that of the sender, or in their place that of want of memory
abbrev pub SaidOfEnd : Writing → List ℕ → Option ℤ → Status → Status → Type 0
SaidOfEnd errors line sender status end = SaidIfAny errors (line ++ sender_line sender) status end ⊎ SaidWithSender errors memory_line sender OUT_OF_MEMORY end

-- of a receiver that has ended so, where no read failed
abbrev pub SaysReceiver : RunEnd → Option ℤ → Writing → Status → Type 0
SaysReceiver receiver.Finished sender errors end = SaidOfEnd errors [] sender FINISHED end
SaysReceiver (receiver.Uncaught e) sender errors end = SaidOfEnd errors (uncaught_line (exn_of e)) sender UNCAUGHT end
SaysReceiver (receiver.Spent n) sender errors end = SaidOfEnd errors (spent_line n) sender SPENT end
SaysReceiver receiver.ReadFault sender errors end = SaidWithSender errors read_line sender READ_FAULT end
SaysReceiver receiver.WriteFault sender errors end = SaidWithSender errors write_line sender WRITE_FAULT end
SaysReceiver receiver.Memory sender errors end = SaidWithSender errors memory_line sender OUT_OF_MEMORY end

-- of a receiver and its sender: a failed read is said in place of all else
pub data SaysRan (r : RunEnd) (rest_failed : Bool) (sender : Ended) (errors : Writing) (end : Status) : Type 0 where
  says_unread : IsReadFault r rest_failed sender → SaidWithSender errors read_line (status_in sender) READ_FAULT end → SaysRan r rest_failed sender errors end
  says_receiver : (s : ℤ) → status_in sender ≡ Some s → SaysReceiver r (Some s) errors end → SaysRan r rest_failed sender errors end

-- of a pipe
abbrev pub SaysPiped : PipeEnd → Writing → Status → Type 0
SaysPiped pipe.Memory errors end = Said errors memory_line OUT_OF_MEMORY end
SaysPiped pipe.StartFault errors end = Said errors start_line START_FAULT end
SaysPiped (pipe.Ran r rest_failed sender) errors end = SaysRan r rest_failed sender errors end
