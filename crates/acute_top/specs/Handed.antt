-- What a call is handed, before it and after it, and what a run's channels have of that.
use Rattle.std.specs.Prelude.{◌≡◌, ◌⊎◌, ℕ, Bool, true, IsTrue, List, [], ◌&&◌, Option, Some, None, is_some}
use Rattle.ac_outside.specs.Outside.{Contents, Rose, or_empty}
use Rattle.acute_words.specs.Commands.{ChannelName, standard, file}
use Rattle.ac_run.specs.Sessions.{Streams, streams}
use Rattle.acute_top.specs.Channels.{of_channel, of_console}
use Rattle.acute_files.specs.Files.{FilesSeen, Reading, files_read, seen}
use Rattle.acute_top.specs.Stages.{Stage}
use Rattle.acute_top.specs.Streams.{Feeding, Writing, feeding, writing}
use Rattle.acute_top.specs.Traits.{FilesOf, SourceOf, SinkOf}

-- the files as they are read and as they are written, what each has before and after, the streams, and how far the call has come
pub record Handed : Type 0 where
  pub files : List ℕ → Reading
  pub made : List ℕ → Writing
  pub was : Contents
  pub is : Contents
  pub input : Feeding
  pub stage : Stage
  pub output : Writing
  pub errors : Writing

-- what a call works on
pub record Call (F I O E : Type 0) : Type 0 where
  pub files : F
  pub input : I
  pub output : O
  pub errors : E

abbrev pub call : {F I O E : Type 0} → F → I → O → E → Call F I O E
call files input output errors = record { files = files; input = input; output = output; errors = errors }

module _ {F I O E : Type 0} (f : FilesOf F) (i : SourceOf I) (o : SinkOf O) (e : SinkOf E) where
  -- what is handed from the start of a call on, when files were so, streams as the first of these has them, and all is now as in the second
  abbrev pub handed_since : FilesSeen → Call F I O E → Call F I O E → Stage → Handed
  handed_since start old new stage = record {
    files = files_read f.told start (seen f new.files);
    made = λ name. record { told = f.told; old = or_empty (start.contents name); new = or_empty (f.contents new.files name); before = start.write_faults name; after = f.write_faults new.files name };
    was = start.contents;
    is = f.contents new.files;
    input = feeding i old.input new.input;
    stage = stage;
    output = writing o old.output new.output;
    errors = writing e old.errors new.errors;
  }

  -- what a call is handed, before it and after it
  abbrev pub handed : Call F I O E → Call F I O E → Stage → Handed
  handed old new stage = handed_since (seen f old.files) old new stage

-- whether all is told of what a run with these channels reads from and writes to
abbrev pub is_told : Option ChannelName → Option ChannelName → Handed → Bool
is_told from to o =
    of_channel from true o.input.told (λ name. (o.files name).told)
    && (of_console to o.output.told o.errors.told && of_channel to true o.output.told (λ name. (o.made name).told))

-- the bytes of the channel that a run reads from
abbrev pub input_of : Option ChannelName → Handed → List ℕ
input_of from o = of_channel from [] o.input.old (λ name. or_empty (o.files name).bytes)

-- the count of failed reads of that channel rose
abbrev pub InputFailed : Option ChannelName → Handed → Type 0
InputFailed from o = Rose (of_channel from 0 o.input.before (λ name. (o.files name).before)) (of_channel from 0 o.input.after (λ name. (o.files name).after))

-- console and channel in front of a run, whose file has been made empty
abbrev pub before_run : Option ChannelName → Handed → Streams
before_run to o = streams (of_console to o.output.old o.errors.old) (of_channel to [] o.output.old (λ name. []))

-- and behind it, where errors had these bytes in front of the line
abbrev pub after_run : Option ChannelName → Handed → List ℕ → Streams
after_run to o mid = streams (of_console to o.output.new mid) (of_channel to [] o.output.new (λ name. (o.made name).new))

-- errors in front of the line, behind what they had by then where they are the console
abbrev pub behind_run : Option ChannelName → Handed → List ℕ → Writing
behind_run to o mid = of_console to o.errors (record o.errors { old = mid })

-- the count of failed writes of the console or of the channel rose
abbrev pub OutputFailed : Option ChannelName → Handed → Type 0
OutputFailed to o =
    Rose (of_console to o.output.before o.errors.before) (of_console to o.output.after o.errors.after)
    ⊎ Rose (of_channel to 0 o.output.before (λ name. (o.made name).before)) (of_channel to 0 o.output.after (λ name. (o.made name).after))

-- the file of the channel is as it was, and missing where it was
abbrev pub Untouched : Option ChannelName → Handed → Type 0
Untouched None o = Unit {0}
Untouched (Some standard) o = Unit {0}
Untouched (Some (file name)) o = IsTrue (o.made name).told → o.is name ≡ o.was name

-- it is as it was, or empty
abbrev pub MadeAtMost : Option ChannelName → Handed → Type 0
MadeAtMost None o = Unit {0}
MadeAtMost (Some standard) o = Unit {0}
MadeAtMost (Some (file name)) o = IsTrue (o.made name).told → (o.is name ≡ o.was name) ⊎ (o.is name ≡ Some [])

-- it is there
abbrev pub IsMade : Option ChannelName → Handed → Type 0
IsMade None o = Unit {0}
IsMade (Some standard) o = Unit {0}
IsMade (Some (file name)) o = IsTrue (o.made name).told → IsTrue (is_some (o.is name))

-- the count of failed writes of that file rose
abbrev pub MakingFailed : Option ChannelName → Handed → Type 0
MakingFailed None o = ⊥
MakingFailed (Some standard) o = ⊥
MakingFailed (Some (file name)) o = Rose (o.made name).before (o.made name).after
