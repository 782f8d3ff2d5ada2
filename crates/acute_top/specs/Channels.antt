-- The channels of a run, among standard streams and files.
use Rattle.std.specs.Prelude.{◌≡◌, ℕ, Bool, IsTrue, List, [], Option, Some, None}
use Rattle.ac_outside.specs.Outside.{Contents}
use Rattle.acute_words.specs.Form.{Text}
use Rattle.acute_words.specs.Commands.{ChannelName, standard, file}

-- what belongs to a channel: this where there is none, this of the standard stream, or this of the file of its name
abbrev pub of_channel : {A : Type 0} → Option ChannelName → A → A → (Text → A) → A
of_channel None none stream files = none
of_channel (Some standard) none stream files = stream
of_channel (Some (file name)) none stream files = files name

-- what belongs to the console, which is output, but errors where output is the channel
abbrev pub of_console : {A : Type 0} → Option ChannelName → A → A → A
of_console None output errors = output
of_console (Some standard) output errors = errors
of_console (Some (file name)) output errors = output

-- a run gets this input: nothing where it has no channel to read from, and else what that has, where all is told
abbrev pub GetsInput : Option ChannelName → Bool → List ℕ → List ℕ → Type 0
GetsInput None told left input = input ≡ []
GetsInput (Some channel) told left input = IsTrue told → left ≡ input

-- a channel is no file
abbrev pub NoFile : Option ChannelName → Type 0
NoFile channel = (name : Text) → channel ≡ Some (file name) → ⊥

-- a channel is no standard stream
abbrev pub NotStandard : Option ChannelName → Type 0
NotStandard channel = channel ≡ Some standard → ⊥

-- each file but that of the channel has the bytes that it had
abbrev pub KeptBut : Option ChannelName → Contents → Contents → Type 0
KeptBut to old new = (name : Text) → (to ≡ Some (file name) → ⊥) → new name ≡ old name
