-- Runs of programs, one after the other, and chains, in which each reads what the one before it sent; and which strings and births they have.
use Rattle.std.specs.Prelude.{◌≡◌, ℕ, Bool, false, true, Some, IsTrue, List, [], ◌∷◌, ◌++◌, map}
use Rattle.ac_types.specs.Types.{Bytes, Typ}
use Rattle.ac_terms.specs.Terms.{Expr, PValue, Value}
use Rattle.ac_terms.specs.Defs.{Environment, name_at}
use Rattle.ac_terms.specs.Bounds.{fits_term}
use Rattle.ac_terms.specs.Names.{text_of_entry}
use Rattle.ac_rules.specs.Views.{Coloured, opened, IsFirstOrder}
use Rattle.ac_rules.specs.Plain.{PlainValue}
use Rattle.ac_meaning.specs.Writes.{Channel, written}
use Rattle.ac_meaning.specs.Worlds.{Crossing, Made, Read, fresh}
use Rattle.ac_meaning.specs.Acts.{Outcome, State, At, Over, iter, writes_of, crossings_of}
use Rattle.ac_meaning.specs.Reduction.{step, Ends}
use Rattle.ac_meaning.specs.Laws.{IsTypedProgram}
use Rattle.ac_colours.specs.Births.{Seal, Event, Gave, Took, events, IsAmong, birth, births}

-- programs, each with its definitions
abbrev pub Programs : Type 0
Programs = List (Environment × Expr)

-- programs that can be loaded: each is typed over its definitions, and within the bounds of its spelling
abbrev pub AreLoadable : Programs → Type 0
AreLoadable [] = Unit {0}
AreLoadable (p ∷ ps) = (T : Typ) × IsTypedProgram p.0 p.1 T × IsTrue (fits_term false p.1) × AreLoadable ps

-- definitions of one name have one text, also those of two programs
abbrev pub HaveOneText : Programs → Type 0
HaveOneText parts =
    (p q : Environment × Expr) → IsAmong p parts → IsAmong q parts → (i j : ℕ) (n s t : Bytes) → name_at p.0 i ≡ Some n → name_at q.0 j ≡ Some n → text_of_entry p.0 i ≡ Some s → text_of_entry q.0 j ≡ Some t → s ≡ t

-- a run: its program, how many applications it may make, its input, and whether it has a channel to send on
pub record SeparateRun : Type 0 where
  pub program : Environment × Expr
  pub steps : ℕ
  pub input : Bytes
  pub sends : Bool

abbrev pub first_state : SeparateRun → State Expr Value
first_state r = At r.program.1 (fresh r.program.0 r.input r.sends)

-- what they run
abbrev pub programs_run : List SeparateRun → Programs
programs_run runs = map (λ (r : SeparateRun). r.program) runs

-- runs one after the other, each to its end. All that happens in them, in order
abbrev pub HappensIn : List SeparateRun → List Event → Type 0
HappensIn [] all = all ≡ []
HappensIn (r ∷ runs) all =
    (k : ℕ) × (o : Outcome Value) × (later : List Event) × (iter (step Coloured r.steps) k (first_state r) ≡ Over o) × (all ≡ events r.steps k (first_state r) ++ later) × HappensIn runs later

-- how they end, in order
abbrev pub EndAs : List SeparateRun → List (Outcome Value) → Type 0
EndAs [] ends = ends ≡ []
EndAs (r ∷ runs) ends = (o : Outcome Value) × (later : List (Outcome Value)) × Ends Coloured r.program.0 r.program.1 r.input r.sends r.steps o × (ends ≡ o ∷ later) × EndAs runs later

-- the strings that crossed in each, in order
abbrev pub journals_of : List (Outcome Value) → List (List Crossing)
journals_of ends = map crossings_of ends

-- runs of these programs, in order, each within N applications and with a channel to send on
abbrev pub AreRunsOf : ℕ → Programs → List SeparateRun → Type 0
AreRunsOf N [] runs = runs ≡ []
AreRunsOf N (p ∷ ps) runs = (r : SeparateRun) × (later : List SeparateRun) × (runs ≡ r ∷ later) × (r.program ≡ p) × (r.steps ≡ N) × (r.sends ≡ true) × AreRunsOf N ps later

-- programs run one after the other, each within N applications and to its end: each reads what the one before it sent. All that happens, in order
abbrev pub IsChain : ℕ → Programs → Bytes → List Event → Type 0
IsChain N [] input all = all ≡ []
IsChain N (p ∷ ps) input all =
    let start = At p.1 (fresh p.0 input true) in
    (k : ℕ) × (o : Outcome Value) × (later : List Event) × (iter (step Coloured N) k start ≡ Over o) × (all ≡ events N k start ++ later) × IsChain N ps (written Channel (writes_of o)) later

-- the same by what stands at each program's end: these journals, in order, each with the strings that crossed in one program
abbrev pub IsJournalled : ℕ → Programs → Bytes → List (List Crossing) → Type 0
IsJournalled N [] input journals = journals ≡ []
IsJournalled N (p ∷ ps) input journals = (o : Outcome Value) × (later : List (List Crossing)) × Ends Coloured p.0 p.1 input true N o × (journals ≡ crossings_of o ∷ later) × IsJournalled N ps (written Channel (writes_of o)) later

-- all of them, one behind the other
abbrev pub joined : List (List Crossing) → List Crossing
joined [] = []
joined (j ∷ js) = j ++ joined js

-- behind what crossed earlier, each string that is read in one of these journals was made earlier, or in front of it in its own
abbrev pub AreReadNatively : List Crossing → List (List Crossing) → Type 0
AreReadNatively earlier [] = Unit {0}
AreReadNatively earlier (j ∷ js) = ((front back : List Crossing) (s : Bytes) → j ≡ front ++ Read s ∷ back → IsAmong (Made s) (earlier ++ front)) × AreReadNatively (earlier ++ j) js

-- each string that is taken was given earlier
abbrev pub AreNative : List Event → Type 0
AreNative all = (before after : List Event) (E : Environment) (s : Bytes) (xs : List Seal) → all ≡ before ++ Took E s xs ∷ after → IsAmong (Gave s) before

-- where a seal's type is first-order, what stands inside it is a plain value, and that was sealed in these events
abbrev pub HasBirth : Environment → Seal → List Event → Type 0
HasBirth E x before =
    let n = x.of_name in
    let t = x.of_type in
    IsFirstOrder E n t → (p : PValue) × PlainValue E x.of_home x.value_inside (opened E n t) p × IsAmong (birth n t p) (births before)

-- each seal that unmarshal writes has its birth before
abbrev pub HaveBirths : List Event → Type 0
HaveBirths all = (before after : List Event) (E : Environment) (s : Bytes) (xs : List Seal) → all ≡ before ++ Took E s xs ∷ after → (x : Seal) → IsAmong x xs → HasBirth E x before
