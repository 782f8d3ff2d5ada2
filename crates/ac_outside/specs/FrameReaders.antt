-- What a reader of frames keeps, and what a call of it answers.
use Rattle.std.specs.Prelude.{◌≡◌, ◌≤◌, ℕ, [], ◌++◌, length, drop}
use Rattle.ac_types.specs.Types.{Bytes}
use Rattle.ac_types.specs.Limits.{longest_frame}
use Rattle.ac_outside.specs.Frames.{Whole, Bad, next_frame}
use Rattle.ac_outside.specs.declared.frames.FrameGot.{FrameGot}
use Rattle.ac_outside.specs.declared.frames.FrameGot.TheVariants as answers

-- a reader of frames
pub data Reader : Type 0 where
  -- it has taken these bytes of a frame that isn't whole yet
  Keeps : Bytes → Reader
  -- it has met no frame: the length, and how many bytes say that it is none
  Refused : ℕ → ℕ → Reader
  -- memory ran out
  Lost : Reader

-- the bytes that it has taken and not given
abbrev pub held : Reader → Bytes
held (Keeps bytes) = bytes
held _ = []

-- there are bytes that are no frame for this reason
pub record IsBad (n g : ℕ) : Type 0 where
  pub bytes : Bytes
  pub is : next_frame bytes ≡ Bad n g

-- the reader after an answer, where it kept these bytes before, whatever its source is
abbrev pub ReaderGoesOn : FrameGot → Bytes → Reader → Type 0
ReaderGoesOn (answers.Frame s) taken_bytes new = (length s.0 ≤ longest_frame) × (new ≡ Keeps [])
ReaderGoesOn answers.End taken_bytes new = (taken_bytes ≡ []) × (new ≡ Keeps [])
ReaderGoesOn (answers.Bad n g) taken_bytes new = IsBad n g × (new ≡ Refused n g)
ReaderGoesOn answers.Failed taken_bytes new = (more : Bytes) × (new ≡ Keeps (taken_bytes ++ more))
ReaderGoesOn answers.Memory taken_bytes new = new ≡ Lost

-- the same of every reader: one that has met no frame, or has lost memory, stays so
abbrev pub Follows : FrameGot → Reader → Reader → Type 0
Follows answer (Keeps taken_bytes) new = ReaderGoesOn answer taken_bytes new
Follows answer (Refused n g) new = (answer ≡ answers.Bad n g) × (new ≡ Refused n g)
Follows answer Lost new = (answer ≡ answers.Memory) × (new ≡ Lost)

-- what is answered where these bytes were kept or left, and what is left then
abbrev pub AnswersFrame : FrameGot → Bytes → Reader → Bytes → Type 0
AnswersFrame (answers.Frame s) all new left = next_frame all ≡ Whole s.0 left
AnswersFrame answers.End all new left = (all ≡ []) × (left ≡ [])
AnswersFrame (answers.Bad n g) all new left = (next_frame all ≡ Bad n g) × (left ≡ drop g all)
AnswersFrame answers.Failed all new left = all ≡ held new ++ left
AnswersFrame answers.Memory all new left = Unit {0}

-- the same of every reader: one that has met no frame, or has lost memory, takes nothing
abbrev pub Receives : FrameGot → Reader → Bytes → Reader → Bytes → Type 0
Receives answer (Keeps taken_bytes) left new now = AnswersFrame answer (taken_bytes ++ left) new now
Receives answer (Refused n g) left new now = now ≡ left
Receives answer Lost left new now = now ≡ left
