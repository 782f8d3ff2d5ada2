-- What `check` gives: a line for each file, with the verdict of its text.
use Rattle.std.specs.Prelude.{Bool, true, false, List, [], ◌∷◌, ◌++◌, codes, if◌then◌else◌}
use Rattle.std.specs.List.{list_all}
use Rattle.ac_types.specs.Types.{Bytes}
use Rattle.ac_types.specs.declared.text.Text.{Text}
use Rattle.ac_load_rules.specs.Accepting.{Shelved}
use Rattle.ac_batch.specs.Verdicts.{AreVerdicts}
use Rattle.ac_batch.specs.declared.verdict.Verdict.{Verdict}
use Rattle.ac_batch.specs.declared.verdict.Verdict.TheVariants.{Accepted, Refused}
use Rattle.acute_answers.specs.declared.status.Status.{Status}
use Rattle.acute_answers.specs.declared.status.TheConstants.Status.{FINISHED, REFUSED}
use Rattle.acute_answers.specs.Answers.{ShownAnswer, printing}
use Rattle.acute_answers.specs.Reasons.{reason}

-- `accepted`, or `refused: ` and why, and the end of the line
abbrev pub verdict_shown : Verdict → Bytes
verdict_shown Accepted = codes "accepted\n"
verdict_shown (Refused r) = codes "refused: " ++ reason r.part r.kind

abbrev pub verdict_line : Bytes → Verdict → Bytes
verdict_line name v = name ++ (codes ": " ++ verdict_shown v)

-- a line for each name, with the verdict at its place
abbrev pub verdict_lines : List Bytes → List Verdict → Bytes
verdict_lines (name ∷ names) (v ∷ vs) = verdict_line name v ++ verdict_lines names vs
verdict_lines _ _ = []

abbrev pub is_accepted : Verdict → Bool
is_accepted Accepted = true
is_accepted (Refused r) = false

-- the status of a refusal where one isn't accepted
abbrev pub verdicts_status : List Verdict → Status
verdicts_status vs = if list_all is_accepted vs then FINISHED else REFUSED

-- the lines are printed, and there is no line on errors
pub data Checks (names : List Bytes) (texts : List Text) (shelf : List Shelved) : ShownAnswer → Type 0 where
  checked : (vs : List Verdict) → AreVerdicts texts shelf vs → Checks names texts shelf (printing (verdicts_status vs) (verdict_lines names vs))
