-- A text means one thing.
use Rattle.std.proofs.Common.{◌≡◌, ◌≤◌, ◌⊎◌, inl, inr, ℕ, Bool, List, [], length, refl, sym, ◌∙◌, ap, subst}
use Rattle.ac_types.specs.Types.{Bytes, Typ}
use Rattle.ac_terms.specs.Terms.{Expr, Value}
use Rattle.ac_terms.specs.Defs.{Environment}
use Rattle.ac_rules.specs.Views.{Mode}
use Rattle.ac_meaning.specs.Acts.{Outcome, Returned, Raised, Spent, Stuck, writes_of}
use Rattle.ac_meaning.specs.Laws.{IsTypedProgram, bare_end}
use Rattle.ac_meaning.specs.Reduction.{Ends}
use Rattle.ac_meaning.proofs.Admitted.{arrives, grow}
use Rattle.ac_meaning.proofs.BareEndings.{ends_alike, one_bare_end}
use Rattle.ac_meaning.proofs.Endings.{some_end}
use Rattle.ac_meaning.proofs.NeverStuck.{never_stuck}
use Rattle.ac_meaning.proofs.Runs.{one_end}
use Rattle.ac_load_rules.specs.Accepting.{Shelved, IsShelf}
use Rattle.ac_load.specs.Loading.{Loads, Rejects}
use Rattle.ac_load.specs.declared.kind.Kind.{Kind}
use Rattle.ac_load.proofs.Loaded.{loads_ready}
use Rattle.acute_answers.proofs.LoadedLaws.{not_rejected, one_program}
use Rattle.acute_answers.specs.declared.status.Status.{Status}
use Rattle.acute_answers.specs.declared.status.TheConstants.Status.{FINISHED, REFUSED, UNCAUGHT, SPENT}
use Rattle.acute_answers.specs.Lines.{refusal_line, uncaught_line, spent_line}
use Rattle.acute_answers.specs.Meaning.{CommandAnswer, refusal, run_answer, Means, refused, finished, uncaught, spent}

abbrev pub status_of : {A : Type 0} → Outcome A → Status
status_of (Returned v z) = FINISHED
status_of (Raised x z) = UNCAUGHT
status_of (Spent z) = SPENT
status_of Stuck = FINISHED

abbrev pub line_of : {A : Type 0} → ℕ → Outcome A → List ℕ
line_of steps (Returned v z) = []
line_of steps (Raised x z) = uncaught_line x
line_of steps (Spent z) = spent_line steps
line_of steps Stuck = []

-- what an end of the program gives
abbrev pub given_by : {A : Type 0} → ℕ → Outcome A → CommandAnswer
given_by steps o = run_answer (status_of o) (writes_of o) (line_of steps o)

-- which is the same without brackets
given_bare : (steps : ℕ) (o : Outcome Value) → given_by steps (bare_end o) ≡ given_by steps o
given_bare steps (Returned v z) = refl
given_bare steps (Raised x z) = refl
given_bare steps (Spent z) = refl
given_bare steps Stuck = refl

-- so it is the same in both modes
pub one_answer : (m n : Mode) (steps : ℕ) (input : Bytes) (sends : Bool) {E : Environment} {e : Expr} {T : Typ} {o p : Outcome Value} → IsTypedProgram E e T → Ends m E e input sends steps o → Ends n E e input sends steps p → given_by steps o ≡ given_by steps p
one_answer m n steps input sends {E = E} {e = e} {T = T} {o = o} {p = p} typed ends others =
    let same : bare_end o ≡ bare_end p = one_bare_end E e input sends steps (bare_end o) (bare_end p) (ends_alike arrives E e T typed m input sends steps o ends) (ends_alike arrives E e T typed n input sends steps p others) in
    sym (given_bare steps o) ∙ ap (given_by steps) same ∙ given_bare steps p

-- a text that loads means something: its program isn't stuck at its end
meant : (mode : Mode) (text : List ℕ) (shelf : List Shelved) (steps : ℕ) (input : Bytes) (sends : Bool) (E : Environment) (e : Expr) (T : Typ) → Loads text shelf E e T → IsTypedProgram E e T → (o : Outcome Value) → Ends mode E e input sends steps o → (a : CommandAnswer) × Means mode text shelf steps input sends a
meant mode text shelf steps input sends E e T l p (Returned v z) h = (run_answer FINISHED z.writes [], finished E e T v z l h)
meant mode text shelf steps input sends E e T l p (Raised x z) h = (run_answer UNCAUGHT z.writes (uncaught_line x), uncaught E e T x z l h)
meant mode text shelf steps input sends E e T l p (Spent z) h = (run_answer SPENT z.writes (spent_line steps), spent E e T z l h)
meant mode text shelf steps input sends E e T l p Stuck h = absurd (never_stuck arrives E e T p mode input sends steps h)

pub some_meaning : (mode : Mode) (text : List ℕ) (shelf : List Shelved) (steps : ℕ) (input : Bytes) (sends : Bool) (E : Environment) (e : Expr) (T : Typ) → IsShelf shelf → length shelf ≤ 256 → Loads text shelf E e T → (a : CommandAnswer) × Means mode text shelf steps input sends a
some_meaning mode text shelf steps input sends E e T good few l =
    let p : IsTypedProgram E e T = (loads_ready text shelf E e T good few l).program in
    let end = some_end grow mode E e input sends steps p.coherent in
    meant mode text shelf steps input sends E e T l p end.0 end.1

-- the text is refused
record IsRefusal (text : List ℕ) (shelf : List Shelved) (a : CommandAnswer) : Type 0 where
  part : ℕ
  kind : Kind
  refused : Rejects text shelf part kind
  is : a ≡ refusal REFUSED (refusal_line part kind)

-- the text has a program, which ends so
record IsRun (mode : Mode) (text : List ℕ) (shelf : List Shelved) (steps : ℕ) (input : Bytes) (sends : Bool) (a : CommandAnswer) : Type 0 where
  env : Environment
  term : Expr
  type : Typ
  outcome : Outcome Value
  accepted : Loads text shelf env term type
  ends : Ends mode env term input sends steps outcome
  is : a ≡ given_by steps outcome

cases : {mode : Mode} {text : List ℕ} {shelf : List Shelved} {steps : ℕ} {input : Bytes} {sends : Bool} {a : CommandAnswer} → Means mode text shelf steps input sends a → IsRefusal text shelf a ⊎ IsRun mode text shelf steps input sends a
cases (refused n k x) = inl (record { part = n; kind = k; refused = x; is = refl })
cases (finished E e T v z y h) = inr (record { env = E; term = e; type = T; outcome = Returned v z; accepted = y; ends = h; is = refl })
cases (uncaught E e T x z y h) = inr (record { env = E; term = e; type = T; outcome = Raised x z; accepted = y; ends = h; is = refl })
cases (spent E e T z y h) = inr (record { env = E; term = e; type = T; outcome = Spent z; accepted = y; ends = h; is = refl })

abbrev Alike : CommandAnswer → CommandAnswer → Type 0
Alike a b = (a.status ≡ b.status) × (a.writes ≡ b.writes)

same_answer : {a b : CommandAnswer} → a ≡ b → Alike a b
same_answer is = (ap (λ (x : CommandAnswer). x.status) is, ap (λ (x : CommandAnswer). x.writes) is)

refused_alike : {text : List ℕ} {shelf : List Shelved} {a b : CommandAnswer} → IsRefusal text shelf a → IsRefusal text shelf b → Alike a b
refused_alike r s =
    let left = same_answer r.is in
    let right = same_answer s.is in
    (left.0 ∙ sym right.0, left.1 ∙ sym right.1)

run_alike : (m n : Mode) {text : List ℕ} {shelf : List Shelved} {steps : ℕ} {input : Bytes} {sends : Bool} {a b : CommandAnswer} → IsShelf shelf → length shelf ≤ 256 → IsRun m text shelf steps input sends a → IsRun n text shelf steps input sends b → Alike a b
run_alike m n {text = text} {shelf = shelf} {steps = steps} {input = input} {sends = sends} good few r s =
    let one = one_program r.accepted s.accepted in
    let moved = subst (λ (e : Expr). Ends m s.env e input sends steps r.outcome) one.1 (subst (λ (E : Environment). Ends m E r.term input sends steps r.outcome) one.0 r.ends) in
    same_answer (r.is ∙ one_answer m n steps input sends (loads_ready text shelf s.env s.term s.type good few s.accepted).program moved s.ends ∙ sym s.is)

alike : (m n : Mode) {text : List ℕ} {shelf : List Shelved} {steps : ℕ} {input : Bytes} {sends : Bool} {a b : CommandAnswer} → IsShelf shelf → length shelf ≤ 256 → IsRefusal text shelf a ⊎ IsRun m text shelf steps input sends a → IsRefusal text shelf b ⊎ IsRun n text shelf steps input sends b → Alike a b
alike m n good few (inl r) (inl s) = refused_alike r s
alike m n good few (inl r) (inr s) = absurd (not_rejected r.refused s.accepted)
alike m n good few (inr r) (inl s) = absurd (not_rejected s.refused r.accepted)
alike m n good few (inr r) (inr s) = run_alike m n good few r s

pub one : (m n : Mode) {text : List ℕ} {shelf : List Shelved} {steps : ℕ} {input : Bytes} {sends : Bool} {a b : CommandAnswer} → IsShelf shelf → length shelf ≤ 256 → Means m text shelf steps input sends a → Means n text shelf steps input sends b → (a.status ≡ b.status) × (a.writes ≡ b.writes)
one m n good few a b = alike m n good few (cases a) (cases b)

-- in one mode this asks nothing of the shelf
run_same : (m : Mode) {text : List ℕ} {shelf : List Shelved} {steps : ℕ} {input : Bytes} {sends : Bool} {a b : CommandAnswer} → IsRun m text shelf steps input sends a → IsRun m text shelf steps input sends b → Alike a b
run_same m {steps = steps} {input = input} {sends = sends} r s =
    let one = one_program r.accepted s.accepted in
    let moved = subst (λ (e : Expr). Ends m s.env e input sends steps r.outcome) one.1 (subst (λ (E : Environment). Ends m E r.term input sends steps r.outcome) one.0 r.ends) in
    same_answer (r.is ∙ ap (given_by steps) (one_end m s.env s.term input sends steps r.outcome s.outcome moved s.ends) ∙ sym s.is)

same : (m : Mode) {text : List ℕ} {shelf : List Shelved} {steps : ℕ} {input : Bytes} {sends : Bool} {a b : CommandAnswer} → IsRefusal text shelf a ⊎ IsRun m text shelf steps input sends a → IsRefusal text shelf b ⊎ IsRun m text shelf steps input sends b → Alike a b
same m (inl r) (inl s) = refused_alike r s
same m (inl r) (inr s) = absurd (not_rejected r.refused s.accepted)
same m (inr r) (inl s) = absurd (not_rejected s.refused r.accepted)
same m (inr r) (inr s) = run_same m r s

pub one_in : (m : Mode) {text : List ℕ} {shelf : List Shelved} {steps : ℕ} {input : Bytes} {sends : Bool} {a b : CommandAnswer} → Means m text shelf steps input sends a → Means m text shelf steps input sends b → (a.status ≡ b.status) × (a.writes ≡ b.writes)
one_in m a b = same m (cases a) (cases b)
