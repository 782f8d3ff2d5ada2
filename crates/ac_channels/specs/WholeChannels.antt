-- In words: which channels are whole, and at which frame each of the others is refused.
use Rattle.std.specs.Prelude.{◌≡◌, ℕ, suc, ◌+◌, ◌<◌, ◌≤◌, List, [], ◌∷◌, length}
use Rattle.ac_types.specs.Types.{Bytes}
use Rattle.ac_outside.specs.Frames.{Whole, Bad, next_frame}
use Rattle.ac_channels.specs.ChannelFrames.{most_frames, longest_channel}

-- the bytes begin with the frames of these strings, behind which this is left
pub data Framed : Bytes → List Bytes → Bytes → Type 0 where
  no_more : {bs : Bytes} → Framed bs [] bs
  a_frame : {bs rest left s : Bytes} {ss : List Bytes} → next_frame bs ≡ Whole s rest → Framed rest ss left → Framed bs (s ∷ ss) left

-- all bytes are the frames of these strings, and they are within the limits
pub record IsWithin (most room : ℕ) (bs : Bytes) (ss : List Bytes) : Type 0 where
  pub framed : Framed bs ss []
  pub few : length ss ≤ most
  pub short : length bs ≤ room

-- why there is no frame behind j others: bytes that are none, one that ends past the limit, or one too many
pub data NoFrame (most room : ℕ) (bs left : Bytes) (j : ℕ) : Type 0 where
  bad : (n g : ℕ) → next_frame left ≡ Bad n g → NoFrame most room bs left j
  past : (s rest : Bytes) → next_frame left ≡ Whole s rest → room + length rest < length bs → NoFrame most room bs left j
  too_many : (s rest : Bytes) → next_frame left ≡ Whole s rest → j ≡ most → NoFrame most room bs left j

-- j frames are within the limits, and the next isn't
pub record StopsBehind (most room : ℕ) (bs : Bytes) (j : ℕ) : Type 0 where
  pub before : List Bytes
  pub left : Bytes
  pub framed : Framed bs before left
  pub number : j ≡ length before
  pub few : length before ≤ most
  pub short : length bs ≤ room + length left
  pub none : NoFrame most room bs left j

-- the channel is whole with these strings, and it is refused at frame k
abbrev pub IsWholeChannel : Bytes → List Bytes → Type 0
IsWholeChannel bs ss = IsWithin most_frames longest_channel bs ss

pub record IsBadAt (bs : Bytes) (k : ℕ) : Type 0 where
  pub others : ℕ
  pub is : k ≡ suc others
  pub stops : StopsBehind most_frames longest_channel bs others
