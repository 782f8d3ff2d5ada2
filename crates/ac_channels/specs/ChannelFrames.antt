-- The frames of a channel that is read whole: all of them, or the number of the first that is refused.
use Rattle.std.specs.Prelude.{ℕ, zero, suc, ◌+◌, ◌-◌, nat_le, cond, List, [], ◌∷◌, length}
use Rattle.ac_types.specs.Types.{Bytes}
use Rattle.ac_outside.specs.Frames.{Frame, Whole, Bad, AtEnd, next_frame}

-- the strings of all frames, or the number of the first bad frame, from 1 on
pub data ChannelFrames : Type 0 where
  AllFrames : List Bytes → ChannelFrames
  BadFrame : ℕ → ChannelFrames

abbrev pub in_front : Bytes → ChannelFrames → ChannelFrames
in_front s (AllFrames ss) = AllFrames (s ∷ ss)
in_front s (BadFrame k) = BadFrame k

-- frame k where it is the next: a whole one goes on
abbrev pub frames_by : ℕ → (Bytes → Bytes → ChannelFrames) → Frame → ChannelFrames
frames_by k next (Whole s rest) = next s rest
frames_by k next (Bad n g) = BadFrame k
frames_by k next AtEnd = AllFrames []

-- frames that are counted from k on, where so many may come yet, with their lengths of so many bytes in all
abbrev pub frames_from : ℕ → ℕ → ℕ → Bytes → ChannelFrames
frames_from zero k room bs = frames_by k (λ s rest. BadFrame k) (next_frame bs)
frames_from (suc more) k room bs = frames_by k (λ s rest. cond (nat_le (4 + length s) room) (in_front s (frames_from more (suc k) (room - (4 + length s)) rest)) (BadFrame k)) (next_frame bs)

-- a channel that is read whole has at most so many frames, and so many bytes
unfoldable pub most_frames : ℕ
most_frames = 4096

unfoldable pub longest_channel : ℕ
longest_channel = 67108864

abbrev pub channel_frames : Bytes → ChannelFrames
channel_frames bs = frames_from most_frames 1 longest_channel bs
