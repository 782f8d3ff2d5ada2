-- What the channels of a run tell.
use Rattle.std.specs.Prelude.{ℕ, ◌&&◌, Bool, true, List, [], Option, drop}
use Rattle.ac_outside.specs.Outside.{Contents, or_empty}
use Rattle.acute_words.specs.Commands.{ChannelName}
use Rattle.acute_top.specs.Channels.{of_channel}

-- whether all is told of what a run reads from and writes to: files, the stream of its input, its console, and the stream of its channel
abbrev pub tells : Option ChannelName → Option ChannelName → Bool → Bool → Bool → Bool → Bool
tells from to files input console stream =
    of_channel from true input (λ name. files) && (console && of_channel to true stream (λ name. files))

-- the bytes that a run has left to read, where it has come to this place in its file
abbrev pub left_in : Option ChannelName → Contents → List ℕ → ℕ → List ℕ
left_in from files input place = of_channel from [] input (λ name. drop place (or_empty (files name)))

-- the bytes that a standard stream has left, where that is the channel
abbrev pub stream_left : Option ChannelName → List ℕ → List ℕ
stream_left from input = of_channel from [] input (λ name. [])

-- the bytes that it has sent
abbrev pub sent_in : Option ChannelName → Contents → List ℕ → List ℕ
sent_in to files stream = of_channel to [] stream (λ name. or_empty (files name))
