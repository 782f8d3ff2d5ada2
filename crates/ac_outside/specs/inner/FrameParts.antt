-- What a reader of frames has taken of a frame that isn't whole yet.
use Rattle.std.specs.Prelude.{◌≡◌, ◌<◌, ◌≤◌, Option, Some, None, [], ◌++◌, length}
use Rattle.std.specs.Int.{from_be_bytes, w32}
use Rattle.ac_types.specs.Types.{Bytes}
use Rattle.ac_types.specs.Limits.{longest_frame}
use Rattle.ac_outside.specs.FrameReaders.{Reader, Keeps, Refused, Lost}
use Rattle.ac_outside.specs.declared.frames.FrameGot.{FrameGot}
use Rattle.ac_outside.specs.declared.frames.FrameGot.TheVariants as answers
use Rattle.ac_outside.specs.declared.frames.Stop.{Stop}
use Rattle.ac_outside.specs.declared.frames.Stop.TheVariants as stops
use Rattle.ac_outside.specs.declared.frames.Part.{Part}

-- what a part of a frame has: its length's bytes, and those behind it
abbrev pub taken_bytes : Part → Bytes
taken_bytes p = p.head.0 ++ p.body.0

-- a part of a frame has no more bytes than the frame
pub record IsFramePart (head body : Bytes) : Type 0 where
  pub short : length head ≤ 4
  pub none : length head < 4 → body ≡ []
  pub over : longest_frame < from_be_bytes w32 head → body ≡ []
  pub within : length body ≤ from_be_bytes w32 head

-- the reader that has stopped so, if it has, and has taken these bytes
abbrev pub reader : Option Stop → Bytes → Reader
reader None bytes = Keeps bytes
reader (Some (stops.Bad n g)) bytes = Refused n g
reader (Some stops.Memory) bytes = Lost

-- the reader that an answer leaves, where it has these bytes
abbrev pub left_by : FrameGot → Bytes → Reader
left_by (answers.Frame s) bytes = Keeps bytes
left_by answers.End bytes = Keeps bytes
left_by (answers.Bad n g) bytes = Refused n g
left_by answers.Failed bytes = Keeps bytes
left_by answers.Memory bytes = Lost
