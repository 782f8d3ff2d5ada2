-- What a text means, where so many applications may be made, with this input, and with or without a channel to send to.
use Rattle.std.specs.Prelude.{ℕ, Bool, true, false, List, []}
use Rattle.ac_types.specs.Types.{Bytes, Typ}
use Rattle.ac_terms.specs.Terms.{Expr, Value}
use Rattle.ac_terms.specs.Defs.{Environment}
use Rattle.ac_rules.specs.Views.{Mode}
use Rattle.ac_meaning.specs.Writes.{Write}
use Rattle.ac_meaning.specs.Worlds.{Exception, World}
use Rattle.ac_meaning.specs.Acts.{Returned, Raised, Spent}
use Rattle.ac_meaning.specs.Reduction.{Ends}
use Rattle.ac_load_rules.specs.Accepting.{Shelved}
use Rattle.ac_load.specs.Loading.{Loads, Rejects}
use Rattle.ac_load.specs.declared.kind.Kind.{Kind}
use Rattle.acute_answers.specs.declared.status.Status.{Status}
use Rattle.acute_answers.specs.declared.status.TheConstants.Status.{FINISHED, REFUSED, UNCAUGHT, SPENT}
use Rattle.acute_answers.specs.Lines.{refusal_line, uncaught_line, spent_line}

-- what a run gives where nothing fails: a status, whether a program runs, what it writes, and the line on errors
pub record CommandAnswer : Type 0 where
  pub status : Status
  -- whether a run begins
  pub runs : Bool
  pub writes : List Write
  pub line : List ℕ

-- without a run
abbrev pub refusal : Status → List ℕ → CommandAnswer
refusal status line = record { status = status; runs = false; writes = []; line = line }

-- with one
abbrev pub run_answer : Status → List Write → List ℕ → CommandAnswer
run_answer status writes line = record { status = status; runs = true; writes = writes; line = line }

-- a text beside a shelf is refused, or its program ends with a value, with an exception, or in front of an application too many
pub data Means (mode : Mode) (text : Bytes) (shelf : List Shelved) (steps : ℕ) (input : Bytes) (sends : Bool) : CommandAnswer → Type 0 where
  refused : (part : ℕ) (kind : Kind) → Rejects text shelf part kind → Means mode text shelf steps input sends (refusal REFUSED (refusal_line part kind))
  finished : (E : Environment) (e : Expr) (T : Typ) (v : Value) (z : World) → Loads text shelf E e T → Ends mode E e input sends steps (Returned v z) → Means mode text shelf steps input sends (run_answer FINISHED z.writes [])
  uncaught : (E : Environment) (e : Expr) (T : Typ) (x : Exception) (z : World) → Loads text shelf E e T → Ends mode E e input sends steps (Raised x z) → Means mode text shelf steps input sends (run_answer UNCAUGHT z.writes (uncaught_line x))
  spent : (E : Environment) (e : Expr) (T : Typ) (z : World) → Loads text shelf E e T → Ends mode E e input sends steps (Spent z) → Means mode text shelf steps input sends (run_answer SPENT z.writes (spent_line steps))
