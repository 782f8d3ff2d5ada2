-- What a program gives that is made and run, as its reduction ends.
use Rattle.std.proofs.Common.{◌≡◌, ◌∙◌, ℕ, suc, Bool, true, false, [], length, refl, sym, ap, subst, arith}
use Rattle.ac_types.specs.Types.{Bytes, Typ}
use Rattle.ac_terms.specs.Terms.{Expr, Value}
use Rattle.ac_terms.specs.Defs.{Environment}
use Rattle.ac_types.specs.declared.exceptions.Exn.{Exn}
use Rattle.ac_rules.specs.Views.{Mode}
use Rattle.ac_meaning.specs.Worlds.{Exception}
use Rattle.ac_meaning.specs.Acts.{Outcome, Returned, Raised, Spent, Stuck, writes_of}
use Rattle.ac_meaning.specs.Laws.{IsTypedProgram}
use Rattle.ac_meaning.specs.ReadExn.{exn_of}
use Rattle.ac_meaning.specs.Reduction.{Ends}
use Rattle.ac_meaning.proofs.Endings.{some_end}
use Rattle.ac_meaning.proofs.Admitted.{grow}
use Rattle.ac_load.specs.Loading.{Loads, Rejects}
use Rattle.ac_load.specs.declared.kind.Kind.{Kind}
use Rattle.ac_run.specs.Sessions.{Session, Streams, streams, with_writes, environment, main, IsEnd, Leaves, RunsTo}
use Rattle.ac_run.specs.declared.end.RunEnd.{RunEnd}
use Rattle.ac_run.specs.declared.end.RunEnd.TheVariants as end
use Rattle.acute_answers.specs.declared.status.Status.{Status}
use Rattle.acute_answers.specs.declared.status.TheConstants.Status.{FINISHED, REFUSED, UNCAUGHT, SPENT}
use Rattle.acute_answers.specs.Answers.{ShownAnswer, printing, telling}
use Rattle.acute_answers.specs.Lines.{refusal_line, uncaught_line, spent_line}
use Rattle.acute_answers.specs.Meaning.{refusal, run_answer, refused, finished, uncaught, spent}
use Rattle.acute_answers.specs.Making.{RunsMade, RunsInEach, run_lines, ended, stopped}
use Rattle.acute_answers.specs.inner.Ending.{GivesAt, GivesInEach}

-- a session of a program of so many modules and bytes has ended, over streams on which there was nothing
module _ (modules bytes steps : ℕ) (t : Session) (a : ShownAnswer) where
  pub finished_at : (new : Streams) (o : Outcome Value) → IsEnd end.Finished o t → new ≡ with_writes (writes_of o) (streams [] []) → a ≡ printing FINISHED (run_lines modules bytes (length new.console)) → GivesAt modules bytes steps a o
  finished_at new (Returned v z) is all e = e ∙ ap (λ (s : Streams). printing FINISHED (run_lines modules bytes (length s.console))) all
  finished_at new (Raised x z) is all e = absurd is
  finished_at new (Spent z) is all e = absurd is
  finished_at new Stuck is all e = absurd is

  pub raised_at : (exn : Exn) (o : Outcome Value) → IsEnd (end.Uncaught exn) o t → a ≡ telling UNCAUGHT (uncaught_line (exn_of exn)) → GivesAt modules bytes steps a o
  raised_at exn (Returned v z) is e = absurd is
  raised_at exn (Raised x z) is e = e ∙ ap (λ (y : Exception). telling UNCAUGHT (uncaught_line y)) is.0
  raised_at exn (Spent z) is e = absurd is
  raised_at exn Stuck is e = absurd is

  pub spent_at : (budget : ℕ) (o : Outcome Value) → t.steps ≡ steps → IsEnd (end.Spent budget) o t → a ≡ telling SPENT (spent_line budget) → GivesAt modules bytes steps a o
  spent_at budget (Returned v z) same is e = absurd is
  spent_at budget (Raised x z) same is e = absurd is
  spent_at budget (Spent z) same is e = e ∙ ap (λ (n : ℕ). telling SPENT (spent_line n)) (is.0 ∙ same)
  spent_at budget Stuck same is e = absurd is

-- a session without a channel that has run without an input, over streams on which there was nothing
module _ (modules bytes : ℕ) (s t : Session) (old new : Streams) (sends : s.sends ≡ false) (none : old ≡ streams [] []) (a : ShownAnswer) where
  -- its program gives this
  abbrev pub GivesSo : Type 0
  GivesSo = GivesInEach (environment s) (main s) modules bytes s.steps a

  ends_so : (r : RunEnd) → RunsTo true s t [] r old new → (mode : Mode) (o : Outcome Value) → Ends mode (environment s) (main s) [] false s.steps o → IsEnd r o t × Leaves r true o t old new
  ends_so r runs mode o h = runs.ends mode o (subst (λ (b : Bool). Ends mode (environment s) (main s) [] b s.steps o) (sym sends) h)

  pub finished_each : RunsTo true s t [] end.Finished old new → a ≡ printing FINISHED (run_lines modules bytes (length new.console)) → GivesSo
  finished_each runs is = λ mode o h.
      let e = ends_so end.Finished runs mode o h in
      finished_at modules bytes s.steps t a new o e.0 (e.1 refl ∙ ap (with_writes (writes_of o)) none) is

  pub raised_each : (exn : Exn) → RunsTo true s t [] (end.Uncaught exn) old new → a ≡ telling UNCAUGHT (uncaught_line (exn_of exn)) → GivesSo
  raised_each exn runs is = λ mode o h. raised_at modules bytes s.steps t a exn o (ends_so (end.Uncaught exn) runs mode o h).0 is

  pub spent_each : (budget : ℕ) → t.steps ≡ s.steps → RunsTo true s t [] (end.Spent budget) old new → a ≡ telling SPENT (spent_line budget) → GivesSo
  spent_each budget same runs is = λ mode o h. spent_at modules bytes s.steps t a budget o same (ends_so (end.Spent budget) runs mode o h).0 is

-- the status of another end
apart : (n : ℕ) → suc n ≡ 0 → ⊥
apart n is = absurd (omega (arith, is))

abbrev number : Status → ℕ
number s = s.0

refused_else : REFUSED ≡ FINISHED → ⊥
refused_else is = apart 0 (ap number is)

uncaught_else : UNCAUGHT ≡ FINISHED → ⊥
uncaught_else is = apart 1 (ap number is)

spent_else : SPENT ≡ FINISHED → ⊥
spent_else is = apart 2 (ap number is)

module _ (steps modules : ℕ) (text : Bytes) where
  -- of a text that loads
  module _ (E : Environment) (e : Expr) (T : Typ) (loads : Loads text [] E e T) (a : ShownAnswer) where
    runs_at : (mode : Mode) (o : Outcome Value) → Ends mode E e [] false steps o → GivesAt modules (length text) steps a o → RunsMade mode steps modules text a
    runs_at mode (Returned v z) h is = subst (RunsMade mode steps modules text) (sym is) (ended (run_answer FINISHED z.writes []) (finished E e T v z loads h) refl)
    runs_at mode (Raised x z) h is = subst (RunsMade mode steps modules text) (sym is) (stopped (run_answer UNCAUGHT z.writes (uncaught_line x)) (uncaught E e T x z loads h) uncaught_else)
    runs_at mode (Spent z) h is = subst (RunsMade mode steps modules text) (sym is) (stopped (run_answer SPENT z.writes (spent_line steps)) (spent E e T z loads h) spent_else)
    runs_at mode Stuck h is = absurd is

    pub runs_in_each : IsTypedProgram E e T → GivesInEach E e modules (length text) steps a → RunsInEach steps modules text a
    runs_in_each typed gives = λ mode.
        let last = some_end grow mode E e [] false steps typed.coherent in
        runs_at mode last.0 last.1 (gives mode last.0 last.1)

  -- of one that is refused
  pub refused_in_each : (part : ℕ) (kind : Kind) → Rejects text [] part kind → RunsInEach steps modules text (telling REFUSED (refusal_line part kind))
  refused_in_each part kind h = λ mode. stopped (refusal REFUSED (refusal_line part kind)) (refused part kind h) refused_else
