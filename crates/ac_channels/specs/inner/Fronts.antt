-- Strings in front of the frames that are left.
use Rattle.std.specs.Prelude.{List, [], ◌∷◌}
use Rattle.ac_types.specs.Types.{Bytes}
use Rattle.ac_channels.specs.ChannelFrames.{ChannelFrames, in_front}

abbrev pub in_fronts : List Bytes → ChannelFrames → ChannelFrames
in_fronts [] frames = frames
in_fronts (s ∷ ss) frames = in_front s (in_fronts ss frames)
