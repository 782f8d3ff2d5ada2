-- How far a call comes, and what it has done with files and input by then.
use Rattle.std.specs.Prelude.{◌≡◌, ◌<◌, ◌^◌, Bool, IsTrue, length, Option, Some, None}
use Rattle.ac_outside.specs.Outside.{Contents, or_empty}
use Rattle.acute_words.specs.Form.{Text}
use Rattle.acute_words.specs.Commands.{ChannelName, Request, standard, file}
use Rattle.acute_files.specs.ReadOrder.{TextsRead}
use Rattle.acute_top.specs.Channels.{NoFile, NotStandard}
use Rattle.acute_top.specs.Requests.{files_loaded, list_named, channel_read, channel_written}
use Rattle.acute_top.specs.Traits.{FilesOf}

-- a call reads texts, and an audit its channel behind them; where it is to run a program that is accepted, it makes the file of the channel, and runs the program
pub data Stage : Type 0 where
  AtTexts : Stage
  AtFile : Stage
  InRun : Stage

-- the file of a channel is told, and has no other places than a system's file may have
abbrev pub HasPlaces : Bool → Option ChannelName → Contents → Type 0
HasPlaces told from contents = (name : Text) → from ≡ Some (file name) → IsTrue told × (length (or_empty (contents name)) < 2 ^ 63)

module _ {F : Type 0} (f : FilesOf F) where
  -- between two moments the files of a request were read, in their order, and no other file was touched
  abbrev pub ReadsTexts : Option Request → F → F → Type 0
  ReadsTexts None a b = b ≡ a
  ReadsTexts (Some r) a b = TextsRead f (files_loaded r) a b (list_named r)

  -- the file of a channel was made, and no other file was touched
  abbrev pub Makes : Option ChannelName → F → F → Type 0
  Makes None a b = b ≡ a
  Makes (Some standard) a b = b ≡ a
  Makes (Some (file name)) a b = f.writes name a b

  -- the file of one channel was read and that of another was written, in whatever order, and no other file was touched
  pub data Uses (from to : Option ChannelName) (a : F) : F → Type 0 where
    not_used : Uses from to a a
    then_read : {b c : F} (name : Text) → from ≡ Some (file name) → Uses from to a b → f.reads name b c → Uses from to a c
    then_written : {b c : F} (name : Text) → to ≡ Some (file name) → Uses from to a b → f.writes name b c → Uses from to a c

  -- that is said where the file that is read has its places
  abbrev pub UsesFiles : Option ChannelName → Option ChannelName → F → F → Type 0
  UsesFiles from to a b = HasPlaces f.told from (f.contents a) → ∥ Uses from to a b ∥₁

  -- likewise of any channels
  abbrev pub UsesChannels : Option ChannelName → Option ChannelName → F → F → Type 0
  UsesChannels from to a b = (NoFile from → NoFile to → b ≡ a) × UsesFiles from to a b

  -- what a call has done with files and input by a stage
  abbrev pub Touches : {I : Type 0} → Option Request → Stage → F → F → I → I → Type 0
  Touches r AtTexts a c old new = (new ≡ old) × ReadsTexts r a c
  Touches r AtFile a c old new = (new ≡ old) × ((b : F) × ReadsTexts r a b × Makes (channel_written r) b c)
  Touches r InRun a d old new = (NotStandard (channel_read r) → new ≡ old) × ((b : F) × (c : F) × ReadsTexts r a b × Makes (channel_written r) b c × UsesChannels (channel_read r) (channel_written r) c d)
