-- What a program writes: its prints and its sends, in their order.
use Rattle.std.specs.Prelude.{List, [], flat_map}
use Rattle.ac_types.specs.Types.{Bytes}
use Rattle.ac_outside.specs.Frames.{frame_of}

-- a string is printed, or sent
pub data Write : Type 0 where
  Print : Bytes → Write
  Send : Bytes → Write

-- the string that is written
abbrev pub string_of : Write → Bytes
string_of (Print s) = s
string_of (Send s) = s

-- what a program writes to
pub data Stream : Type 0 where
  Console : Stream
  Channel : Stream

-- what a write adds to a stream: a print its bytes to the console, a send its frame to the channel
abbrev pub piece : Stream → Write → Bytes
piece Console (Print s) = s
piece Console (Send s) = []
piece Channel (Print s) = []
piece Channel (Send s) = frame_of s

-- what all these writes add
abbrev pub written : Stream → List Write → Bytes
written stream writes = flat_map (piece stream) writes
