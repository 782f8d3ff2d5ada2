-- How a pipe ends: what the text of its receiver means with what the child gives, and what a fault leaves of that.
use Rattle.std.specs.Prelude.{◌≡◌, ◌⊎◌, ℕ, ℤ, Bool, ◌&&◌, true, false, IsTrue, List, [], ◌++◌, Option, Some}
use Rattle.ac_types.specs.Types.{Bytes}
use Rattle.ac_outside.specs.Outside.{Rose}
use Rattle.acute_words.specs.Commands.{ProgramFiles}
use Rattle.ac_rules.specs.Views.{Mode}
use Rattle.ac_meaning.specs.Writes.{Console, written}
use Rattle.ac_load_rules.specs.Accepting.{Shelved}
use Rattle.acute_files.specs.Files.{Reading, IsTextOf}
use Rattle.acute_files.specs.ProgramTexts.{IsShelfBy, HasBadLine, ReadsFail}
use Rattle.ac_run.specs.Sessions.{Streams, streams, StopsIn, StopsBehind}
use Rattle.acute_answers.specs.declared.status.Status.{Status}
use Rattle.acute_answers.specs.declared.status.TheConstants.Status.{OUT_OF_MEMORY, READ_FAULT, WRITE_FAULT, START_FAULT, SHELF_REFUSED}
use Rattle.acute_answers.specs.Meaning.{CommandAnswer}
use Rattle.acute_pipe.specs.Receivers.{MeansReceived, StandsReading}
use Rattle.acute_pipe.specs.Senders.{sender_line}
use Rattle.acute_pipe.specs.Spawnings.{Spawning, NoStart, HasNotStarted, HasEnded, ChildFailed}
use Rattle.acute_top.specs.Streams.{Writing, AllWritten, read_line, write_line, memory_line, start_line, shelf_line}
use Rattle.acute_top.specs.Saying.{Said, SaidIfAny}

-- the line of a fault, and behind it that of the sender, which is left out where memory ran out for it
abbrev pub SaidWithSender : Writing → List ℕ → Option ℤ → Status → Status → Type 0
SaidWithSender errors line sender status end = Said errors (line ++ sender_line sender) status end ⊎ Said errors line status end

module _ (words : List Bytes) (p : ProgramFiles) (steps : ℕ) (files : Bytes → Reading) (c : Spawning) (output errors : Writing) where
  -- whether all is told that the receiver reads and prints
  abbrev pub receives_told : Bool
  receives_told = c.told && output.told

  -- what there is to read: the shelf, the text, and what the child gives
  pub record HasSent : Type 0 where
    pub shelf : List Shelved
    pub is_shelf : IsShelfBy files p.shelf shelf
    pub text : Bytes
    pub is_text : IsTextOf (files p.file) text
    pub input : Bytes
    pub is_input : IsTrue receives_told → c.old.left ≡ input

  -- what is given where nothing fails: what the text means, in each mode
  abbrev pub GivesReceived : HasSent → CommandAnswer → Type 0
  GivesReceived r a = MeansReceived r.text r.shelf steps r.input a

  -- the console before and after; nothing is sent
  abbrev pub console_before : Streams
  console_before = streams output.old []

  abbrev pub console_after : Streams
  console_after = streams output.new []

  -- the prints stopped in one, or behind some
  abbrev pub StopsSomewhere : CommandAnswer → Type 0
  StopsSomewhere a = StopsIn receives_told a.writes console_before console_after ⊎ StopsBehind receives_told a.writes console_before console_after

  -- the receiver came to a receive at which a read failed
  abbrev pub StoodReading : HasSent → Type 0
  StoodReading r = (mode : Mode) → StandsReading r.text r.shelf steps r.input mode receives_told console_before console_after

  -- how a pipe ends: a row for each way; the line of the sender's status stands behind that of the end
  pub data PipeEnded (end : Status) : Type 0 where
    -- the receiver is refused, nothing is started, and nothing is printed
    refused_receiver : (r : HasSent) (a : CommandAnswer) → GivesReceived r a → a.runs ≡ false → AllWritten output [] → NoStart c → Said errors a.line a.status end → PipeEnded end
    -- the list of the shelf has a bad line
    bad_pipe_list : (n : ℕ) → HasBadLine files p.shelf n → AllWritten output [] → NoStart c → Said errors (shelf_line n) SHELF_REFUSED end → PipeEnded end
    -- a read of the list, of a file that it names, or of the receiver's file failed
    unread_receiver : ReadsFail files p.file p.shelf → AllWritten output [] → NoStart c → Said errors read_line READ_FAULT end → PipeEnded end
    -- memory ran out in front of the start, or in it
    no_memory_to_start : AllWritten output [] → NoStart c → Said errors memory_line OUT_OF_MEMORY end → PipeEnded end
    -- the start failed, where the receiver would have run
    not_started : (r : HasSent) (a : CommandAnswer) → GivesReceived r a → a.runs ≡ true → HasNotStarted c words → AllWritten output [] → Said errors start_line START_FAULT end → PipeEnded end
    -- the receiver has run to its end, and so has the child; all that it prints stands there
    has_piped : (r : HasSent) (a : CommandAnswer) (sender : ℤ) → GivesReceived r a → a.runs ≡ true → HasEnded c words (Some sender) → (IsTrue receives_told → output.new ≡ output.old ++ written Console a.writes) → SaidIfAny errors (a.line ++ sender_line (Some sender)) a.status end → PipeEnded end
    -- a read of what the child gives failed, where the receiver stood at a receive; what was printed stands in front of all that it prints
    unread_child : (r : HasSent) (a : CommandAnswer) (sender : Option ℤ) → GivesReceived r a → a.runs ≡ true → HasEnded c words sender → ChildFailed c → StopsBehind receives_told a.writes console_before console_after → StoodReading r
        → SaidWithSender errors read_line sender READ_FAULT end → PipeEnded end
    -- a read behind the receiver's end failed, or the wait for the child, however the receiver ended
    unread_rest : (r : HasSent) (a : CommandAnswer) (sender : Option ℤ) → GivesReceived r a → a.runs ≡ true → HasEnded c words sender → ChildFailed c → StopsSomewhere a → SaidWithSender errors read_line sender READ_FAULT end → PipeEnded end
    -- a print of the receiver failed
    unprinted_pipe : (r : HasSent) (a : CommandAnswer) (sender : ℤ) → GivesReceived r a → a.runs ≡ true → HasEnded c words (Some sender) → Rose output.before output.after → StopsIn receives_told a.writes console_before console_after
        → SaidWithSender errors write_line (Some sender) WRITE_FAULT end → PipeEnded end
    -- memory ran out in the run, or behind it
    no_memory_in_pipe : (r : HasSent) (a : CommandAnswer) (sender : ℤ) → GivesReceived r a → a.runs ≡ true → HasEnded c words (Some sender) → StopsSomewhere a → SaidWithSender errors memory_line (Some sender) OUT_OF_MEMORY end → PipeEnded end
