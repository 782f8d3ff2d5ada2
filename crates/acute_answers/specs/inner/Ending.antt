-- What a program gives that is run by itself, as its reduction ends.
use Rattle.std.specs.Prelude.{◌≡◌, ℕ, false, [], length}
use Rattle.ac_terms.specs.Terms.{Expr, Value}
use Rattle.ac_terms.specs.Defs.{Environment}
use Rattle.ac_rules.specs.Views.{Mode}
use Rattle.ac_meaning.specs.Writes.{Console, written}
use Rattle.ac_meaning.specs.Acts.{Outcome, Returned, Raised, Spent, Stuck}
use Rattle.ac_meaning.specs.Reduction.{Ends}
use Rattle.acute_answers.specs.declared.status.TheConstants.Status.{FINISHED, UNCAUGHT, SPENT}
use Rattle.acute_answers.specs.Answers.{ShownAnswer, printing, telling}
use Rattle.acute_answers.specs.Lines.{uncaught_line, spent_line}
use Rattle.acute_answers.specs.Making.{run_lines}

-- a program of so many modules and bytes, which may make so many applications
abbrev pub GivesAt : ℕ → ℕ → ℕ → ShownAnswer → Outcome Value → Type 0
GivesAt modules bytes steps a (Returned v z) = a ≡ printing FINISHED (run_lines modules bytes (length (written Console z.writes)))
GivesAt modules bytes steps a (Raised x z) = a ≡ telling UNCAUGHT (uncaught_line x)
GivesAt modules bytes steps a (Spent z) = a ≡ telling SPENT (spent_line steps)
GivesAt modules bytes steps a Stuck = ⊥

-- in each mode
abbrev pub GivesInEach : Environment → Expr → ℕ → ℕ → ℕ → ShownAnswer → Type 0
GivesInEach E e modules bytes steps a = (mode : Mode) (o : Outcome Value) → Ends mode E e [] false steps o → GivesAt modules bytes steps a o
