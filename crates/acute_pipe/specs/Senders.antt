-- The sender of a pipe: the words by which it is started, and what is said of its end.
use Rattle.std.specs.Prelude.{ℤ, pos, zero, List, [], ◌∷◌, ◌++◌, Option, Some, None, option_map, codes}
use Rattle.std.specs.Fmt.{signed_decimal}
use Rattle.ac_types.specs.Types.{Bytes}
use Rattle.acute_words.specs.declared.command.Pipe.{Pipe}
use Rattle.ac_spawn.specs.declared.spawner.Ended.{Ended}
use Rattle.ac_spawn.specs.declared.spawner.Ended.TheVariants as ended

-- an option and its value, as two words, where it is given
abbrev pub option_words : Bytes → Option Bytes → List Bytes
option_words name None = []
option_words name (Some value) = name ∷ value ∷ []

-- TOOL run A --out -, and the options as they were written
abbrev pub started_words : Bytes → Bytes → Option Bytes → Option Bytes → List Bytes
started_words tool sender shelf steps =
    tool ∷ codes "run" ∷ sender ∷ codes "--out" ∷ codes "-" ∷ (option_words (codes "--shelf") shelf ++ option_words (codes "--steps") steps)

-- those of a request
abbrev pub words_for : Pipe → List Bytes
words_for asked = started_words asked.tool.now asked.sender.now (option_map (λ s. s.now) asked.receiver.shelf) (option_map (λ s. s.now) asked.written)

-- the status with which it ended, if that is known
abbrev pub status_in : Ended → Option ℤ
status_in (ended.Status s) = Some s
status_in ended.Failed = None

-- the line of a status
abbrev pub ended_with : ℤ → Bytes
ended_with s = codes "acute: sender ended with " ++ (signed_decimal s ++ 10 ∷ [])

-- that of a sender that has ended with another status than 0
abbrev pub sender_line : Option ℤ → Bytes
sender_line None = []
sender_line (Some (pos zero)) = []
sender_line (Some s) = ended_with s
