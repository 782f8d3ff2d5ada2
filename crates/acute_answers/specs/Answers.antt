-- What a command gives where nothing fails.
use Rattle.std.specs.Prelude.{[]}
use Rattle.ac_types.specs.Types.{Bytes}
use Rattle.acute_answers.specs.declared.answer.Answer as code
use Rattle.acute_answers.specs.declared.status.Status.{Status}

-- a status, what is printed, and the line on errors
pub record ShownAnswer : Type 0 where
  pub status : Status
  pub printed : Bytes
  pub line : Bytes

-- that is printed, and there is no line
abbrev pub printing : Status → Bytes → ShownAnswer
printing status bytes = record { status = status; printed = bytes; line = [] }

-- nothing is printed, and that is the line
abbrev pub telling : Status → Bytes → ShownAnswer
telling status line = record { status = status; printed = []; line = line }

-- an answer of the code
abbrev pub answer_of : code.Answer → ShownAnswer
answer_of a = record { status = a.status; printed = a.printed.0; line = a.line.0 }
