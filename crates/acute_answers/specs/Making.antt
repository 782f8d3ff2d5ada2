-- What `make` gives.
use Rattle.std.specs.Prelude.{◌≡◌, ℕ, Bool, true, false, [], ◌++◌, length, codes}
use Rattle.std.specs.Fmt.{decimal}
use Rattle.ac_types.specs.Limits.{default_steps}
use Rattle.ac_types.specs.Types.{Bytes}
use Rattle.ac_rules.specs.Views.{Mode}
use Rattle.ac_meaning.specs.Writes.{Console, written}
use Rattle.ac_make.specs.ProgramText.{program_text}
use Rattle.acute_answers.specs.declared.status.TheConstants.Status.{FINISHED}
use Rattle.acute_answers.specs.Answers.{ShownAnswer, printing, telling}
use Rattle.acute_answers.specs.Meaning.{CommandAnswer, Means}

-- how many modules a program has, how many bytes, and how many bytes it printed
abbrev pub run_lines : ℕ → ℕ → ℕ → Bytes
run_lines modules bytes printed =
    codes "modules " ++ (decimal modules ++ (codes "\nbytes " ++ (decimal bytes ++ (codes "\nprinted " ++ (decimal printed ++ codes "\n")))))

-- what a program of so many modules with this text gives that is run without a shelf, an input and a channel, and may make so many applications: where it ends with a value, these lines; at any other end nothing on output, and status and line are those of its run
pub data RunsMade (mode : Mode) (steps modules : ℕ) (text : Bytes) : ShownAnswer → Type 0 where
  ended : (a : CommandAnswer) → Means mode text [] steps [] false a → a.status ≡ FINISHED
      → RunsMade mode steps modules text (printing FINISHED (run_lines modules (length text) (length (written Console a.writes))))
  stopped : (a : CommandAnswer) → Means mode text [] steps [] false a → (a.status ≡ FINISHED → ⊥) → RunsMade mode steps modules text (telling a.status a.line)

-- the same in each mode
abbrev pub RunsInEach : ℕ → ℕ → Bytes → ShownAnswer → Type 0
RunsInEach steps modules text a = (mode : Mode) → RunsMade mode steps modules text a

-- the text of the program, or what its run gives
abbrev pub Makes : ℕ → ℕ → Bool → ShownAnswer → Type 0
Makes seed modules false a = a ≡ printing FINISHED (program_text seed modules)
Makes seed modules true a = RunsInEach default_steps modules (program_text seed modules) a
