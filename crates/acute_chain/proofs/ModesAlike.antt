-- What a chain gives is the same in each mode.
use Rattle.std.proofs.Common.{◌≡◌, ◌∙◌, ◌≤◌, refl, sym, ap, ap₂, subst, ℕ, ◌+◌, Bool, true, List, [], ◌∷◌, ◌++◌, length, flat_map}
use Rattle.std.specs.Prelude.{codes}
use Rattle.std.specs.Fmt.{decimal}
use Rattle.ac_types.specs.Types.{Bytes, Typ}
use Rattle.ac_terms.specs.Terms.{Expr, Value}
use Rattle.ac_terms.specs.Defs.{Environment}
use Rattle.ac_rules.specs.Views.{Mode, Plain}
use Rattle.ac_meaning.specs.Worlds.{Crossing}
use Rattle.ac_meaning.specs.Writes.{Console, Channel, written}
use Rattle.ac_meaning.specs.Acts.{Outcome, Returned, Raised, Spent, Stuck, writes_of, crossings_of}
use Rattle.ac_meaning.specs.Reduction.{Ends}
use Rattle.ac_meaning.specs.Laws.{IsTypedProgram, bare_end}
use Rattle.ac_meaning.proofs.Admitted.{arrives, grow}
use Rattle.ac_meaning.proofs.Endings as endings
use Rattle.ac_meaning.proofs.BareEndings.{ends_alike, one_bare_end}
use Rattle.ac_meaning.proofs.NeverStuck.{never_stuck}
use Rattle.ac_load_rules.specs.Accepting.{Shelved, IsShelf}
use Rattle.ac_load.proofs.Loaded.{loads_ready}
use Rattle.ac_colours.specs.Chains.{Programs}
use Rattle.ac_chain.specs.ChainTexts.{LoadAs}
use Rattle.ac_chain.specs.Natives.{natives, made_by}
use Rattle.ac_chain.specs.ChainMeaning.{RunInTurn, Runs, console_of}
use Rattle.ac_chain.specs.StringLines.{native_line}
use Rattle.acute_answers.specs.declared.status.TheConstants.Status.{FINISHED}
use Rattle.acute_answers.specs.Answers.{printing}
use Rattle.acute_chain.specs.Chaining.{Chains, ChainsInEach, ran, run_status, end_lines, lines_behind, IsNotStuck, NoneIsStuck}

-- in another mode a program has an end, and it is bare the same
other_end : (E : Environment) (e : Expr) (T : Typ) → IsTypedProgram E e T → (k : Mode) (input : Bytes) (N : ℕ) (o : Outcome Value) → Ends Plain E e input true N o → (p : Outcome Value) × Ends k E e input true N p × (bare_end o ≡ bare_end p)
other_end E e T h k input N o a =
    let p = endings.some_end grow k E e input true N h.coherent in
    (p.0, p.1, one_bare_end E e input true N (bare_end o) (bare_end p.0) (ends_alike arrives E e T h Plain input true N o a) (ends_alike arrives E e T h k input true N p.0 p.1))

-- what a chain tells of a run is told by its bare end
bare_writes : (o : Outcome Value) → writes_of o ≡ writes_of (bare_end o)
bare_writes (Returned v z) = refl
bare_writes (Raised x z) = refl
bare_writes (Spent z) = refl
bare_writes Stuck = refl

bare_crossings : (o : Outcome Value) → crossings_of o ≡ crossings_of (bare_end o)
bare_crossings (Returned v z) = refl
bare_crossings (Raised x z) = refl
bare_crossings (Spent z) = refl
bare_crossings Stuck = refl

bare_status : (o : Outcome Value) → run_status o ≡ run_status (bare_end o)
bare_status (Returned v z) = refl
bare_status (Raised x z) = refl
bare_status (Spent z) = refl
bare_status Stuck = refl

same_writes : (o p : Outcome Value) → bare_end o ≡ bare_end p → writes_of o ≡ writes_of p
same_writes o p e = bare_writes o ∙ ap writes_of e ∙ sym (bare_writes p)

same_crossings : (o p : Outcome Value) → bare_end o ≡ bare_end p → crossings_of o ≡ crossings_of p
same_crossings o p e = bare_crossings o ∙ ap crossings_of e ∙ sym (bare_crossings p)

same_status : (o p : Outcome Value) → bare_end o ≡ bare_end p → run_status o ≡ run_status p
same_status o p e = bare_status o ∙ ap run_status e ∙ sym (bare_status p)

-- ends that are bare the same, one by one
abbrev AreAlike : List (Outcome Value) → List (Outcome Value) → Type 0
AreAlike [] [] = Unit {0}
AreAlike (o ∷ os) (p ∷ ps) = (bare_end o ≡ bare_end p) × AreAlike os ps
AreAlike [] (p ∷ ps) = ⊥
AreAlike (o ∷ os) [] = ⊥

alike_console : (os ps : List (Outcome Value)) → AreAlike os ps → console_of os ≡ console_of ps
alike_console [] [] h = refl
alike_console [] (p ∷ ps) h = absurd h
alike_console (o ∷ os) [] h = absurd h
alike_console (o ∷ os) (p ∷ ps) h = ap₂ (λ (a b : Bytes). a ++ b) (ap (written Console) (same_writes o p h.0)) (alike_console os ps h.1)

alike_end : (k : ℕ) (made : List Bytes) (o p : Outcome Value) → bare_end o ≡ bare_end p → end_lines k made o ≡ end_lines k made p
alike_end k made o p e =
    ap₂ (λ (a b : Bytes). a ++ b)
    (ap (λ (s : ℕ). codes "program " ++ (decimal k ++ (codes ": status " ++ (decimal s ++ codes "\n")))) (same_status o p e))
    (ap (λ (xs : List Crossing). flat_map native_line (natives made xs)) (same_crossings o p e))

alike_lines : (k : ℕ) (made : List Bytes) (os ps : List (Outcome Value)) → AreAlike os ps → lines_behind k made os ≡ lines_behind k made ps
alike_lines k made [] [] h = refl
alike_lines k made [] (p ∷ ps) h = absurd h
alike_lines k made (o ∷ os) [] h = absurd h
alike_lines k made (o ∷ os) (p ∷ ps) h =
    ap₂ (λ (a b : Bytes). a ++ b) (alike_end k made o p h.0)
    (alike_lines (k + 1) (made_by made (crossings_of o)) os ps h.1 ∙ ap (λ (xs : List Crossing). lines_behind (k + 1) (made_by made xs) ps) (same_crossings o p h.0))

-- each program is typed
abbrev AreTyped : Programs → Type 0
AreTyped [] = Unit {0}
AreTyped (p ∷ ps) = ((T : Typ) × IsTypedProgram p.0 p.1 T) × AreTyped ps

typed : (texts : List Bytes) (shelf : List Shelved) (ps : Programs) → IsShelf shelf → length shelf ≤ 256 → LoadAs texts shelf ps → AreTyped ps
typed [] shelf [] is few h = tt
typed [] shelf (p ∷ ps) is few h = absurd h
typed (t ∷ ts) shelf [] is few h = absurd h
typed (t ∷ ts) shelf (p ∷ ps) is few h = ((h.0.0, (loads_ready t shelf p.0 p.1 h.0.0 is few h.0.1).program), typed ts shelf ps is few h.1)

-- programs run in turn in another mode, too
run_alike : (N : ℕ) (told : Bool) (ps : Programs) → AreTyped ps → (k : Mode) (left : Bytes) (os : List (Outcome Value)) → RunInTurn Plain N told ps left os → (qs : List (Outcome Value)) × RunInTurn k N told ps left qs × AreAlike os qs
run_alike N told [] h k left [] r = ([], tt, tt)
run_alike N told [] h k left (o ∷ os) r = absurd r
run_alike N told (p ∷ ps) h k left [] r = absurd r
run_alike N told (p ∷ ps) h k left (o ∷ os) r =
    let q = other_end p.0 p.1 h.0.0 h.0.1 k r.0.input N o r.0.ends in
    let sent = ap (written Channel) (same_writes o q.0 q.2) in
    let rest = run_alike N told ps h.1 k (written Channel (writes_of q.0)) os (subst (λ (s : Bytes). RunInTurn Plain N told ps s os) sent r.1) in
    (q.0 ∷ rest.0, (record { input = r.0.input; is_input = r.0.is_input; ends = q.1 }, rest.1), (q.2, rest.2))

-- and none is stuck
not_stuck : (E : Environment) (e : Expr) (T : Typ) → IsTypedProgram E e T → (mode : Mode) (input : Bytes) (N : ℕ) (o : Outcome Value) → Ends mode E e input true N o → IsNotStuck o
not_stuck E e T h mode input N (Returned v z) a = tt
not_stuck E e T h mode input N (Raised x z) a = tt
not_stuck E e T h mode input N (Spent z) a = tt
not_stuck E e T h mode input N Stuck a = never_stuck arrives E e T h mode input true N a

none_is_stuck : (mode : Mode) (N : ℕ) (told : Bool) (ps : Programs) → AreTyped ps → (left : Bytes) (os : List (Outcome Value)) → RunInTurn mode N told ps left os → NoneIsStuck os
none_is_stuck mode N told [] h left [] r = tt
none_is_stuck mode N told [] h left (o ∷ os) r = absurd r
none_is_stuck mode N told (p ∷ ps) h left [] r = absurd r
none_is_stuck mode N told (p ∷ ps) h left (o ∷ os) r = (not_stuck p.0 p.1 h.0.0 h.0.1 mode r.0.input N o r.0.ends, none_is_stuck mode N told ps h.1 (written Channel (writes_of o)) os r.1)

pub chains_in_each : (texts : List Bytes) (shelf : List Shelved) (N : ℕ) (told : Bool) → IsShelf shelf → length shelf ≤ 256 → (r : Runs Plain texts shelf N told) → ChainsInEach texts shelf N told (console_of r.ends) (printing FINISHED (console_of r.ends ++ lines_behind 1 [] r.ends))
chains_in_each texts shelf N told is few r mode =
    let are = typed texts shelf r.programs is few r.load in
    let q = run_alike N told r.programs are mode [] r.ends r.run in
    let console = alike_console r.ends q.0 q.2 in
    let same = ap₂ (λ (a b : Bytes). a ++ b) console (alike_lines 1 [] r.ends q.0 q.2) in
    subst (Chains mode texts shelf N told (console_of r.ends)) (ap (printing FINISHED) (sym same))
    (subst (λ (b : Bytes). Chains mode texts shelf N told b (printing FINISHED (console_of q.0 ++ lines_behind 1 [] q.0))) (sym console)
    (ran (record { programs = r.programs; load = r.load; apart = r.apart; ends = q.0; run = q.1 }) (none_is_stuck mode N told r.programs are [] q.0 q.1)))
