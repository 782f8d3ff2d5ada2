-- A run in its world, and the files in front of it.
use Rattle.std.specs.Prelude.{◌≡◌, ◌⊎◌, ◌≤◌, ℕ, Bool, true, IsTrue, [], length, Option, Some, None, is_some}
use Rattle.ac_types.specs.Types.{Bytes}
use Rattle.ac_outside.specs.Outside.{Contents, NeverFall, Created, OthersSame, Rose, or_empty}
use Rattle.ac_outside.specs.declared.traits.Put.{Put}
use Rattle.ac_outside.specs.declared.traits.Put.TheVariants as put
use Rattle.acute_words.specs.Commands.{ChannelName, standard, file}
use Rattle.ac_rules.specs.Views.{Mode}
use Rattle.ac_terms.specs.Terms.{Value}
use Rattle.ac_meaning.specs.Acts.{Outcome}
use Rattle.ac_run.specs.Sessions.{Session, Streams, streams, ProgramEnds, HasLeft, RunsTo}
use Rattle.ac_run.specs.declared.end.RunEnd.{RunEnd}
use Rattle.acute_top.specs.Channels.{of_channel, of_console, GetsInput, KeptBut}
use Rattle.acute_top.specs.Handed.{Call}
use Rattle.acute_top.specs.Stages.{HasPlaces, Uses}
use Rattle.acute_top.specs.Traits.{FilesOf, SourceOf, SinkOf}
use Rattle.acute_top.specs.inner.Told.{tells, left_in, stream_left, sent_in}
use Rattle.acute_files.specs.Files.{FilesSeen}

-- this is left of the standard stream that is the channel
abbrev pub StreamLeft : Option ChannelName → Bool → Session → Bytes → RunEnd → Bytes → Type 0
StreamLeft from told s input r left = from ≡ Some standard → IsTrue told → (mode : Mode) (o : Outcome Value) → ProgramEnds mode s input o → HasLeft r o input left

-- a session has run with some input that a channel may give, which had one thing left before it and another behind it
pub record RanIn (from : Option ChannelName) (told : Bool) (before after : Bytes) (old new : Streams) (s t : Session) (r : RunEnd) : Type 0 where
  pub input : Bytes
  pub gets : GetsInput from told before input
  pub runs : RunsTo told s t input r old new
  pub budget : t.steps ≡ s.steps
  pub leaves : StreamLeft from told s input r after

-- with these channels among what a call works on
module _ {F I O E : Type 0} (f : FilesOf F) (i : SourceOf I) (o : SinkOf O) (e : SinkOf E) where
  -- what console and channel have
  abbrev pub streams_in : Option ChannelName → Call F I O E → Streams
  streams_in to c = streams (of_console to (o.written c.output) (e.written c.errors)) (sent_in to (f.contents c.files) (o.written c.output))

  -- a session that hadn't run yet has run
  abbrev pub RanAmong : Option ChannelName → Option ChannelName → Call F I O E → Call F I O E → Session → Session → RunEnd → Type 0
  RanAmong from to old new s t r = s.end ≡ None → RanIn from (tells from to f.told i.told (of_console to o.told e.told) o.told) (left_in from (f.contents old.files) (i.left old.input) 0) (stream_left from (i.left new.input)) (streams_in to old) (streams_in to new) s t r

  -- the count of failed writes of the console or of the channel rose
  abbrev pub WritesRose : Option ChannelName → Call F I O E → Call F I O E → Type 0
  WritesRose to old new =
      Rose (of_console to (o.faults old.output) (e.faults old.errors)) (of_console to (o.faults new.output) (e.faults new.errors))
      ⊎ Rose (of_channel to 0 (o.faults old.output) (f.write_faults old.files)) (of_channel to 0 (o.faults new.output) (f.write_faults new.files))

  -- that of failed reads rose
  abbrev pub ReadsRose : Option ChannelName → Call F I O E → Call F I O E → Type 0
  ReadsRose from old new = Rose (of_channel from 0 (i.read_faults old.input) (f.read_faults old.files)) (of_channel from 0 (i.read_faults new.input) (f.read_faults new.files))

-- errors are as they were, unless they are the console
abbrev pub ErrorsApart : {Errors : Type 0} → Option ChannelName → Errors → Errors → Type 0
ErrorsApart None old new = new ≡ old
ErrorsApart (Some standard) old new = Unit {0}
ErrorsApart (Some (file name)) old new = new ≡ old

-- the channel's file is empty
abbrev pub Emptied : Option ChannelName → Contents → Type 0
Emptied None now = Unit {0}
Emptied (Some standard) now = Unit {0}
Emptied (Some (file name)) now = now name ≡ Some []

-- whether the channel's file is there
abbrev pub is_there : Option ChannelName → Contents → Bool
is_there to now = of_channel to true true (λ name. is_some (now name))

-- files in front of a run: the channel's has been made empty, and the others have what they had
pub record Prepared (told : Bool) (to : Option ChannelName) (start now : FilesSeen) : Type 0 where
  pub kept : IsTrue told → KeptBut to start.contents now.contents
  pub emptied : IsTrue told → Emptied to now.contents
  pub reads : NeverFall start.read_faults now.read_faults
  pub writes : NeverFall start.write_faults now.write_faults

-- what the making of the channel's file answers and leaves
abbrev pub MakesFile : Option ChannelName → Bool → Put → FilesSeen → FilesSeen → Type 0
MakesFile None told p old new = (p ≡ put.Done) × (new ≡ old)
MakesFile (Some standard) told p old new = (p ≡ put.Done) × (new ≡ old)
MakesFile (Some (file name)) told p old new =
    (IsTrue told → Created p (old.contents name) (new.contents name))
    × ((IsTrue told → OthersSame name old.contents new.contents)
    × ((p ≡ put.Failed → Rose (old.write_faults name) (new.write_faults name))
    × (NeverFall old.read_faults new.read_faults × NeverFall old.write_faults new.write_faults)))

-- a place is within the bytes that the channel's file had
abbrev pub IsPlaceIn : Option ChannelName → Contents → ℕ → Type 0
IsPlaceIn from was place = place ≤ of_channel from place place (λ name. length (or_empty (was name)))

-- since these files, if they are known, of which what is read had these bytes, the channels' files alone were used
abbrev pub UsesSince : {F : Type 0} → FilesOf F → Option F → Option ChannelName → Option ChannelName → Contents → F → Type 0
UsesSince {F} f start from to was now = (a : F) → start ≡ Some a → HasPlaces f.told from was → ∥ Uses f from to a now ∥₁
