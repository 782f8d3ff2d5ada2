-- Channels of small limits, computed.
use Rattle.std.proofs.Common.{◌≡◌, refl}
use Rattle.std.specs.Prelude.{[], ◌∷◌, ◌++◌}
use Rattle.ac_types.specs.Types.{Bytes}
use Rattle.ac_outside.specs.Frames.{frame_of}
use Rattle.ac_channels.specs.ChannelFrames.{AllFrames, BadFrame, frames_from}

-- a channel of two frames, five bytes and six
abbrev two_frames : Bytes
two_frames = frame_of (1 ∷ []) ++ frame_of (2 ∷ 3 ∷ [])

pub within_limits : frames_from 2 1 11 two_frames ≡ AllFrames ((1 ∷ []) ∷ (2 ∷ 3 ∷ []) ∷ [])
within_limits = refl

pub nothing_there : frames_from 0 1 0 [] ≡ AllFrames []
nothing_there = refl

pub one_too_many : frames_from 1 1 11 two_frames ≡ BadFrame 2
one_too_many = refl

pub ends_past_the_limit : frames_from 2 1 10 two_frames ≡ BadFrame 2
ends_past_the_limit = refl

pub ends_early : frames_from 9 1 99 (two_frames ++ 0 ∷ 0 ∷ []) ≡ BadFrame 3
ends_early = refl

pub too_long : frames_from 9 1 99 (0 ∷ 16 ∷ 0 ∷ 1 ∷ []) ≡ BadFrame 1
too_long = refl
