-- How the run of a command ends, whatever was done in front of it.
use Rattle.std.specs.Prelude.{◌≡◌, List, Option, option_map, is_some}
use Rattle.ac_types.specs.Types.{Bytes}
use Rattle.ac_types.specs.ReadTypes.{typ_of}
use Rattle.ac_terms.specs.Read.{environment_of, expr_of}
use Rattle.ac_rules.specs.declared.loaded.Loaded.{Loaded}
use Rattle.ac_meaning.specs.Loads.{IsLoaded}
use Rattle.ac_load_rules.specs.Accepting.{Shelved}
use Rattle.ac_load.specs.Loading.{Loads}
use Rattle.acute_files.specs.Files.{FilesSeen, IsTextOf, Since, seen}
use Rattle.acute_files.specs.ProgramTexts.{IsShelfBy}
use Rattle.ac_run.specs.Sessions.{Session}
use Rattle.ac_run.specs.Course.{begun}
use Rattle.acute_words.specs.Commands as commands
use Rattle.acute_words.specs.Commands.{ChannelName, Request, channel_of, files_of}
use Rattle.acute_words.specs.declared.command.Run.{Run}
use Rattle.acute_answers.specs.declared.status.Status.{Status}
use Rattle.acute_top.specs.Channels.{NotStandard}
use Rattle.acute_top.specs.Stages.{Stage, AtTexts, AtFile, InRun, Makes, UsesChannels}
use Rattle.acute_top.specs.Handed.{Handed, Call, handed_since}
use Rattle.acute_top.specs.RunEndings.{RunEnded}
use Rattle.acute_top.specs.Traits.{FilesOf, SourceOf, SinkOf}

-- the channel that a run receives from
abbrev pub from_of : Run → Option ChannelName
from_of run = option_map channel_of run.input

-- and that to which it sends
abbrev pub to_of : Run → Option ChannelName
to_of run = option_map channel_of run.output

-- what it asks for
abbrev pub asked : Run → Request
asked run = commands.run (files_of run.program) run.steps (from_of run) (to_of run)

-- the run of a command ends so
abbrev pub HasRun : Run → Handed → Status → Type 0
HasRun run o end = RunEnded (files_of run.program) run.steps (from_of run) (to_of run) o end

-- where these are its shelf and its text
abbrev pub HasRunText : Run → List Shelved → Bytes → Handed → Status → Type 0
HasRunText run shelf text o end = IsShelfBy o.files (files_of run.program).shelf shelf → IsTextOf (o.files (files_of run.program).file) text → HasRun run o end

-- where this is loaded of its text
abbrev pub HasRunLoaded : Run → Loaded → Handed → Status → Type 0
HasRunLoaded run loaded o end = (shelf : List Shelved) → IsShelfBy o.files (files_of run.program).shelf shelf → (text : Bytes) → IsTextOf (o.files (files_of run.program).file) text → Loads text shelf (environment_of loaded.env) (expr_of loaded.main) (typ_of loaded.ty) → HasRun run o end

-- where this is the session of what is loaded
abbrev pub HasRunBegun : Run → Session → Handed → Status → Type 0
HasRunBegun run s o end = (loaded : Loaded) → IsLoaded (environment_of loaded.env) (expr_of loaded.main) (typ_of loaded.ty) → s ≡ begun loaded run.steps (is_some (to_of run)) s.machine → HasRunLoaded run loaded o end

-- what a run has done with files and input by a stage, from where its texts have been read
abbrev pub TouchesBehind : {F I : Type 0} → FilesOf F → Option ChannelName → Option ChannelName → Stage → F → F → I → I → Type 0
TouchesBehind f from to AtTexts a b old new = (new ≡ old) × (b ≡ a)
TouchesBehind f from to AtFile a b old new = (new ≡ old) × Makes f to a b
TouchesBehind {F} f from to InRun a c old new = (NotStandard from → new ≡ old) × ((b : F) × Makes f to a b × UsesChannels f from to b c)

-- this holds of what is handed since a call began in which files haven't changed up to here, and a run with these channels has done so much with files and input
abbrev pub HoldsSince : {F I O E : Type 0} → FilesOf F → SourceOf I → SinkOf O → SinkOf E → Option ChannelName → Option ChannelName → Call F I O E → Call F I O E → (Handed → Type 0) → Type 0
HoldsSince f i o e from to old new holds = (stage : Stage) × TouchesBehind f from to stage old.files new.files old.input new.input × ((start : FilesSeen) → Since f.told start (seen f old.files) → holds (handed_since f i o e start old new stage))
