-- The frames of a channel's file.
use Rattle.std.specs.Prelude.{◌≡◌, IsTrue, Some}
use Rattle.ac_types.specs.Types.{Bytes}
use Rattle.ac_channels.specs.ChannelFrames.{ChannelFrames, channel_frames}
use Rattle.acute_files.specs.Files.{Reading}

-- the file is there, and its bytes are these frames, or are refused at this one
abbrev pub HasFrames : Reading → ChannelFrames → Type 0
HasFrames file frames = IsTrue file.told → (bytes : Bytes) × (file.bytes ≡ Some bytes) × (channel_frames bytes ≡ frames)
