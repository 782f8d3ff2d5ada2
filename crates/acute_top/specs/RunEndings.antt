-- How the run of a file ends: what its text means where nothing fails, and what a fault leaves of that.
use Rattle.std.specs.Prelude.{◌≡◌, ◌⊎◌, ℕ, Bool, true, false, IsTrue, List, [], Option, Some, is_some}
use Rattle.ac_types.specs.Types.{Bytes, Typ}
use Rattle.ac_terms.specs.Terms.{Expr, Value}
use Rattle.ac_terms.specs.Defs.{Environment}
use Rattle.acute_words.specs.Commands.{ChannelName, ProgramFiles, standard}
use Rattle.ac_rules.specs.Views.{Mode}
use Rattle.ac_meaning.specs.Acts.{Outcome, receives_of}
use Rattle.ac_meaning.specs.Reduction.{Ends}
use Rattle.ac_load_rules.specs.Accepting.{Shelved}
use Rattle.ac_load.specs.Loading.{Loads}
use Rattle.acute_files.specs.Files.{IsTextOf}
use Rattle.acute_files.specs.ProgramTexts.{IsShelfBy, HasBadLine, ReadsFail}
use Rattle.ac_run.specs.Sessions.{Streams, HasLeft, with_writes, StopsIn, StopsBehind, StopsAtReceive}
use Rattle.ac_run.specs.declared.end.RunEnd.{RunEnd}
use Rattle.ac_run.specs.declared.end.RunEnd.TheVariants as run_end
use Rattle.acute_answers.specs.declared.status.Status.{Status}
use Rattle.acute_answers.specs.declared.status.TheConstants.Status.{OUT_OF_MEMORY, READ_FAULT, WRITE_FAULT, SHELF_REFUSED}
use Rattle.acute_answers.specs.Meaning.{CommandAnswer, Means}
use Rattle.acute_top.specs.Channels.{GetsInput}
use Rattle.acute_top.specs.Stages.{AtTexts, AtFile}
use Rattle.acute_top.specs.Streams.{AllWritten, read_line, write_line, memory_line, shelf_line}
use Rattle.acute_top.specs.Saying.{Said, SaidIfAny}
use Rattle.acute_top.specs.Handed.{Handed, is_told, input_of, InputFailed, OutputFailed, MakingFailed, IsMade, Untouched, MadeAtMost, before_run, after_run, behind_run}

-- a text is accepted, and on the way to its end in this mode the program came to a receive: what it had written in front of that was written, and nothing else
pub record StoodAtReceive (mode : Mode) (text : Bytes) (shelf : List Shelved) (steps : ℕ) (input : Bytes) (sends told : Bool) (old new : Streams) : Type 0 where
  pub definitions : Environment
  pub term : Expr
  pub ty : Typ
  pub accepted : Loads text shelf definitions term ty
  pub last : Outcome Value
  pub ends : Ends mode definitions term input sends steps last
  pub stops : StopsAtReceive told (receives_of last) old new

-- a text is accepted, and of its input the program has left what is left, by the reduction in this mode, where a run ends so
pub record LeavesInput (mode : Mode) (text : Bytes) (shelf : List Shelved) (steps : ℕ) (input : Bytes) (sends : Bool) (e : RunEnd) (left : Bytes) : Type 0 where
  pub definitions : Environment
  pub term : Expr
  pub ty : Typ
  pub accepted : Loads text shelf definitions term ty
  pub last : Outcome Value
  pub ends : Ends mode definitions term input sends steps last
  pub leaves : HasLeft e last input left

module _ (p : ProgramFiles) (steps : ℕ) (from to : Option ChannelName) (o : Handed) where
  -- what there is to read: the shelf, the text, and the input of its run
  pub record HasRead : Type 0 where
    pub shelf : List Shelved
    pub is_shelf : IsShelfBy o.files p.shelf shelf
    pub text : Bytes
    pub is_text : IsTextOf (o.files p.file) text
    pub input : Bytes
    pub is_input : GetsInput from (is_told from to o) (input_of from o) input

  -- what is given where nothing fails: what the text means with its input, in each mode
  abbrev pub GivesStatus : HasRead → CommandAnswer → Type 0
  GivesStatus r a = (mode : Mode) → Means mode r.text r.shelf steps r.input (is_some to) a

  -- what a program whose run ends so leaves of input, where that is its channel
  abbrev pub InputLeft : HasRead → RunEnd → Type 0
  InputLeft r e = from ≡ Some standard → IsTrue (is_told from to o) → (mode : Mode) → LeavesInput mode r.text r.shelf steps r.input (is_some to) e o.input.new

  -- how the run of a file ends: a row for each way, and one line on errors that goes with it; once a run has begun the file of its channel is there
  pub data RunEnded (end : Status) : Type 0 where
    -- the program is refused, nothing else is written, and nothing is read but texts
    is_refused : (r : HasRead) (a : CommandAnswer) → GivesStatus r a → a.runs ≡ false → AllWritten o.output [] → Untouched to o → o.stage ≡ AtTexts → Said o.errors a.line a.status end → RunEnded end
    -- the program has run to its end, all that it writes stands there, and where input is its channel that has left what the reduction leaves
    has_run : (r : HasRead) (a : CommandAnswer) (mid : Bytes) → GivesStatus r a → a.runs ≡ true → (IsTrue (is_told from to o) → after_run to o mid ≡ with_writes a.writes (before_run to o)) → InputLeft r run_end.Finished → IsMade to o → SaidIfAny (behind_run to o mid) a.line a.status end → RunEnded end
    -- the list of the shelf has a bad line, nothing else is written, and nothing is read but texts
    bad_list : (n : ℕ) → HasBadLine o.files p.shelf n → AllWritten o.output [] → Untouched to o → o.stage ≡ AtTexts → Said o.errors (shelf_line n) SHELF_REFUSED end → RunEnded end
    -- a read of the list, of a file that it names, or of the program's file failed, nothing was written, and nothing read but texts
    unread_file : ReadsFail o.files p.file p.shelf → AllWritten o.output [] → Untouched to o → o.stage ≡ AtTexts → Said o.errors read_line READ_FAULT end → RunEnded end
    -- the file of the channel could not be made, nothing was run, and nothing was read but texts
    unmade_file : (r : HasRead) (a : CommandAnswer) → GivesStatus r a → a.runs ≡ true → MakingFailed to o → AllWritten o.output [] → MadeAtMost to o → o.stage ≡ AtFile → Said o.errors write_line WRITE_FAULT end → RunEnded end
    -- a read of the channel failed, where the program stood at one of its receives; what was written stands in front of all that it writes, and of input some bytes may be gone behind the frames of the receives before it
    unread_input : (r : HasRead) (a : CommandAnswer) (mid : Bytes) → GivesStatus r a → a.runs ≡ true → IsMade to o → InputFailed from o → StopsBehind (is_told from to o) a.writes (before_run to o) (after_run to o mid)
        → ((mode : Mode) → StoodAtReceive mode r.text r.shelf steps r.input (is_some to) (is_told from to o) (before_run to o) (after_run to o mid)) → InputLeft r run_end.ReadFault → Said (behind_run to o mid) read_line READ_FAULT end → RunEnded end
    -- a write of the run failed, and of input the frames of the receives in front of it are gone
    unwritten : (r : HasRead) (a : CommandAnswer) (mid : Bytes) → GivesStatus r a → a.runs ≡ true → IsMade to o → OutputFailed to o → StopsIn (is_told from to o) a.writes (before_run to o) (after_run to o mid) → InputLeft r run_end.WriteFault → Said (behind_run to o mid) write_line WRITE_FAULT end → RunEnded end
    -- memory ran out in front of the run, with nothing written, and nothing read but texts
    no_memory_yet : AllWritten o.output [] → Untouched to o → o.stage ≡ AtTexts → Said o.errors memory_line OUT_OF_MEMORY end → RunEnded end
    -- or while the file of the channel was made, with nothing read but texts
    no_memory_making : (r : HasRead) (a : CommandAnswer) → GivesStatus r a → a.runs ≡ true → AllWritten o.output [] → MadeAtMost to o → o.stage ≡ AtFile → Said o.errors memory_line OUT_OF_MEMORY end → RunEnded end
    -- or in the run, or behind it
    no_memory_left : (r : HasRead) (a : CommandAnswer) (mid : Bytes) → GivesStatus r a → a.runs ≡ true → IsMade to o → StopsIn (is_told from to o) a.writes (before_run to o) (after_run to o mid) ⊎ StopsBehind (is_told from to o) a.writes (before_run to o) (after_run to o mid)
        → Said (behind_run to o mid) memory_line OUT_OF_MEMORY end → RunEnded end
