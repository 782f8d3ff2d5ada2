-- The front of a file, and what is left of it while it is read.
use Rattle.std.specs.Prelude.{◌≡◌, ℕ, ◌+◌, [], ◌∷◌, Option, Some, None, take, drop}
use Rattle.ac_types.specs.Types.{Bytes}
use Rattle.ac_outside.specs.Outside.{or_empty}
use Rattle.ac_channels.specs.ChannelFrames.{longest_channel}

-- as many bytes as tell the frames of a channel
unfoldable pub longest_front : ℕ
longest_front = longest_channel + 1

-- the bytes that are left of them, at this place
abbrev pub front_left : Option Bytes → ℕ → Bytes
front_left file place = drop place (take longest_front (or_empty file))

-- a byte that was read and not yet taken
abbrev pub byte_held : Option ℕ → Bytes
byte_held None = []
byte_held (Some b) = b ∷ []

-- the file is there, and this is its first byte
abbrev pub BeginsWith : Option Bytes → ℕ → Type 0
BeginsWith file b = (rest : Bytes) × (file ≡ Some (b ∷ rest))
