-- How a chain ends: what the texts of its files give where nothing fails, and what a fault leaves of that.
use Rattle.std.specs.Prelude.{◌≡◌, ℕ, Bool, List, [], Option}
use Rattle.ac_types.specs.Types.{Bytes}
use Rattle.ac_types.specs.declared.text.Text.{Text}
use Rattle.ac_outside.specs.Outside.{Rose}
use Rattle.ac_load_rules.specs.Accepting.{Shelved}
use Rattle.acute_files.specs.Files.{Reading}
use Rattle.acute_files.specs.ManyTexts.{AreTexts, TextsFail}
use Rattle.acute_files.specs.ProgramTexts.{IsShelfBy, HasBadLine}
use Rattle.ac_chain.specs.ChainTexts.{texts_of}
use Rattle.acute_answers.specs.declared.status.Status.{Status}
use Rattle.acute_answers.specs.declared.status.TheConstants.Status.{FINISHED, OUT_OF_MEMORY, READ_FAULT, WRITE_FAULT, SHELF_REFUSED}
use Rattle.acute_answers.specs.Answers.{ShownAnswer}
use Rattle.acute_chain.specs.Chaining.{ChainsInEach}
use Rattle.acute_top.specs.Streams.{Writing, AllWritten, PrefixWritten, read_line, write_line, memory_line, shelf_line}
use Rattle.acute_top.specs.Saying.{Said, SaidIfAny}

-- the programs of files give that as a chain, where output tells what it has or doesn't; what they print as they run stands first in it
pub record ChainsFiles (files : Bytes → Reading) (programs : List Bytes) (list : Option Bytes) (steps : ℕ) (told : Bool) (a : ShownAnswer) : Type 0 where
  pub shelf : List Shelved
  pub is_shelf : IsShelfBy files list shelf
  pub texts : List Text
  pub are_texts : AreTexts files programs texts
  pub console : Bytes
  pub chains : ChainsInEach (texts_of texts) shelf steps told console a

-- how a chain of files ends: a row for each way
pub data ChainEnded (programs : List Bytes) (list : Option Bytes) (steps : ℕ) (files : Bytes → Reading) (output errors : Writing) (end : Status) : Type 0 where
  -- all that it prints stands there
  has_chained : (a : ShownAnswer) → ChainsFiles files programs list steps output.told a → AllWritten output a.printed → SaidIfAny errors a.line a.status end → ChainEnded programs list steps files output errors end
  -- the list of the shelf has a bad line
  bad_chain_list : (n : ℕ) → HasBadLine files list n → AllWritten output [] → Said errors (shelf_line n) SHELF_REFUSED end → ChainEnded programs list steps files output errors end
  -- a read of the list, of a file that it names, or of a program's file failed
  unread_chain : TextsFail files programs list → AllWritten output [] → Said errors read_line READ_FAULT end → ChainEnded programs list steps files output errors end
  -- a print failed, where the programs run
  unprinted_chain : (a : ShownAnswer) → ChainsFiles files programs list steps output.told a → a.status ≡ FINISHED → Rose output.before output.after → PrefixWritten output a.printed → Said errors write_line WRITE_FAULT end → ChainEnded programs list steps files output errors end
  -- memory ran out in front of the runs, or in them, or behind them
  no_memory_to_chain : AllWritten output [] → Said errors memory_line OUT_OF_MEMORY end → ChainEnded programs list steps files output errors end
  no_memory_in_chain : (a : ShownAnswer) → ChainsFiles files programs list steps output.told a → PrefixWritten output a.printed → Said errors memory_line OUT_OF_MEMORY end → ChainEnded programs list steps files output errors end
