-- How an answer is delivered, and what is said of texts that weren't read.
use Rattle.std.specs.Prelude.{◌≡◌, ◌⊎◌, [], Result, Ok}
use Rattle.ac_types.specs.declared.memory.Memory.{Memory}
use Rattle.ac_outside.specs.Outside.{Rose}
use Rattle.acute_files.specs.declared.shelf.TextsFault.{TextsFault}
use Rattle.acute_files.specs.declared.shelf.TextsFault.TheVariants as fault
use Rattle.acute_answers.specs.declared.answer.Answer.{Answer}
use Rattle.acute_answers.specs.declared.status.Status.{Status}
use Rattle.acute_answers.specs.declared.status.TheConstants.Status.{OUT_OF_MEMORY, READ_FAULT, WRITE_FAULT, SHELF_REFUSED}
use Rattle.acute_top.specs.Streams.{Writing, AllWritten, PrefixWritten, read_line, write_line, memory_line, shelf_line}
use Rattle.acute_top.specs.Saying.{Said, SaidIfAny}

-- an answer was to be printed and its line to be written, before an end with its status
pub data Delivered (a : Answer) (output errors : Writing) (end : Status) : Type 0 where
  whole : AllWritten output a.printed.0 → SaidIfAny errors a.line.0 a.status end → Delivered a output errors end
  print_failed : (a.printed.0 ≡ [] → ⊥) → Rose output.before output.after → PrefixWritten output a.printed.0 → Said errors write_line WRITE_FAULT end → Delivered a output errors end
  lost_in_print : PrefixWritten output a.printed.0 → Said errors memory_line OUT_OF_MEMORY end → Delivered a output errors end

-- that, or there was no memory to find the answer
pub data DeliveredIfFound (found : Result Answer Memory) (output errors : Writing) (end : Status) : Type 0 where
  delivered : (a : Answer) → found ≡ Ok a → Delivered a output errors end → DeliveredIfFound found output errors end
  not_found : AllWritten output [] → Said errors memory_line OUT_OF_MEMORY end → DeliveredIfFound found output errors end

-- the line of a fault of reading
abbrev pub SaysUnread : TextsFault → Writing → Status → Type 0
SaysUnread (fault.Line n) errors end = Said errors (shelf_line n) SHELF_REFUSED end ⊎ Said errors memory_line OUT_OF_MEMORY end
SaysUnread fault.Failed errors end = Said errors read_line READ_FAULT end
SaysUnread fault.Memory errors end = Said errors memory_line OUT_OF_MEMORY end
