-- How a call ends: what the words ask for where nothing fails, and what a fault leaves of that.
use Rattle.std.specs.Prelude.{◌≡◌, ℕ, List, [], Option, Some, None, map, string_bytes, String}
use Rattle.std.specs.declared.alloc.Global.{Global}
use Rattle.ac_types.specs.Types.{Bytes}
use Rattle.ac_outside.specs.Outside.{Rose}
use Rattle.acute_words.specs.Commands.{Request, run, chain, pipe}
use Rattle.acute_files.specs.Files.{Reading}
use Rattle.acute_files.specs.ProgramTexts.{HasBadLine}
use Rattle.acute_answers.specs.declared.status.Status.{Status}
use Rattle.acute_answers.specs.declared.status.TheConstants.Status.{OUT_OF_MEMORY, READ_FAULT, WRITE_FAULT, WORDS_REFUSED, SHELF_REFUSED}
use Rattle.acute_answers.specs.Answers.{ShownAnswer}
use Rattle.acute_top.specs.Streams.{Writing, AllWritten, PrefixWritten, words_line, read_line, write_line, memory_line, shelf_line}
use Rattle.acute_top.specs.Saying.{Said, SaidIfAny}
use Rattle.acute_top.specs.Handed.{Handed}
use Rattle.acute_top.specs.Requests.{list_named, IsUnreadable}
use Rattle.acute_top.specs.Giving.{Gives}
use Rattle.acute_pipe.specs.Senders.{started_words}
use Rattle.acute_pipe.specs.Spawnings.{Spawning}
use Rattle.acute_top.specs.ChainEndings.{ChainEnded}
use Rattle.acute_top.specs.PipeEndings.{PipeEnded}
use Rattle.acute_top.specs.RunEndings.{RunEnded}

-- the words as bytes
abbrev pub texts : List (String Global) → List (List ℕ)
texts words = map string_bytes words

-- where the words are refused: nothing is written but a line
pub data NoCommand (o : Handed) (end : Status) : Type 0 where
  refused_words : AllWritten o.output [] → Said o.errors words_line WORDS_REFUSED end → NoCommand o end
  no_memory_for_words : AllWritten o.output [] → Said o.errors memory_line OUT_OF_MEMORY end → NoCommand o end

-- how a request ends that prints what it finds
pub data AnswerEnded (r : Request) (files : Bytes → Reading) (output errors : Writing) (end : Status) : Type 0 where
  -- all that it prints stands there
  has_printed : (a : ShownAnswer) → Gives files r a → AllWritten output a.printed → SaidIfAny errors a.line a.status end → AnswerEnded r files output errors end
  -- the list of the shelf has a bad line
  no_shelf : (n : ℕ) → HasBadLine files (list_named r) n → AllWritten output [] → Said errors (shelf_line n) SHELF_REFUSED end → AnswerEnded r files output errors end
  -- a read of the list, of a file that it names, or of a file that is loaded failed
  unread : IsUnreadable files r → AllWritten output [] → Said errors read_line READ_FAULT end → AnswerEnded r files output errors end
  -- a print failed, and there was something to print
  unprinted : (a : ShownAnswer) → Gives files r a → (a.printed ≡ [] → ⊥) → Rose output.before output.after → PrefixWritten output a.printed → Said errors write_line WRITE_FAULT end → AnswerEnded r files output errors end
  -- memory ran out in front of the print, or in it
  no_memory_to_find : AllWritten output [] → Said errors memory_line OUT_OF_MEMORY end → AnswerEnded r files output errors end
  no_memory_to_print : (a : ShownAnswer) → Gives files r a → PrefixWritten output a.printed → Said errors memory_line OUT_OF_MEMORY end → AnswerEnded r files output errors end

-- how a call ends, by what the words ask for
abbrev pub CallEnded : Option Request → Handed → Spawning → Status → Type 0
CallEnded None o c end = NoCommand o end
CallEnded (Some (run p steps from to)) o c end = RunEnded p steps from to o end
CallEnded (Some (chain programs list steps)) o c end = ChainEnded programs list steps o.files o.output o.errors end
CallEnded (Some (pipe tool sender p steps written)) o c end = PipeEnded (started_words tool sender p.shelf written) p steps o.files c o.output o.errors end
CallEnded (Some r) o c end = AnswerEnded r o.files o.output o.errors end
