-- The frames of a channel: each string stands behind its length.
use Rattle.std.specs.Prelude.{◌≡◌, ◌≤◌, ◌+◌, ℕ, nat_le, cond, [], ◌∷◌, ◌++◌, length, take, drop}
use Rattle.std.specs.Int.{from_be_bytes, to_be_bytes, w32}
use Rattle.ac_types.specs.Limits.{longest_frame}
use Rattle.ac_types.specs.Types.{Bytes}

-- a string as a frame: the number of its bytes in four bytes, the highest first, and the bytes
abbrev pub frame_of : Bytes → Bytes
frame_of s = to_be_bytes w32 (length s) ++ s

-- these bytes are one whole frame
pub record IsFrame (bytes : Bytes) : Type 0 where
  pub string : Bytes
  pub short : length string ≤ longest_frame
  pub is : bytes ≡ frame_of string

-- what an input begins with
pub data Frame : Type 0 where
  -- a frame that holds these bytes, and the bytes after it
  Whole : Bytes → Bytes → Frame
  -- no frame: the length that it begins with, 0 where its four bytes aren't there, and how many bytes say that it is none
  Bad : ℕ → ℕ → Frame
  -- nothing, since the input has ended
  AtEnd : Frame

-- a frame behind a length, where the input goes on so
abbrev pub framed : ℕ → Bytes → Frame
framed n rest =
    cond (nat_le n longest_frame)
    (cond (nat_le n (length rest)) (Whole (take n rest) (drop n rest)) (Bad n (4 + length rest)))
    (Bad n 4)

-- the frame that comes next
abbrev pub next_frame : Bytes → Frame
next_frame [] = AtEnd
next_frame (a ∷ b ∷ c ∷ d ∷ rest) = framed (from_be_bytes w32 (a ∷ b ∷ c ∷ d ∷ [])) rest
next_frame bs = Bad 0 (length bs)
