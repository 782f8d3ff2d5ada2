-- The write of a line on errors.
use Rattle.std.specs.Prelude.{◌≡◌, ℕ, List, [], ◌∷◌}
use Rattle.ac_outside.specs.Outside.{Rose}
use Rattle.acute_answers.specs.declared.status.Status.{Status}
use Rattle.acute_answers.specs.declared.status.TheConstants.Status.{OUT_OF_MEMORY, WRITE_FAULT}
use Rattle.acute_top.specs.Streams.{Writing, AllWritten, PrefixWritten}

-- after the write of a line that goes with a status: it is whole, or that write failed, or memory ran out in it
pub data Said (errors : Writing) (line : List ℕ) (status : Status) : Status → Type 0 where
  said : AllWritten errors line → Said errors line status status
  failed : Rose errors.before errors.after → PrefixWritten errors line → Said errors line status WRITE_FAULT
  no_memory : PrefixWritten errors line → Said errors line status OUT_OF_MEMORY

-- where there is no line, nothing is written
abbrev pub SaidIfAny : Writing → List ℕ → Status → Status → Type 0
SaidIfAny errors [] status end = (end ≡ status) × AllWritten errors []
SaidIfAny errors (c ∷ line) status end = Said errors (c ∷ line) status end
