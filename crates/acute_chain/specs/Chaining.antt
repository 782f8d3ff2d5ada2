-- What `chain` gives: what its programs print as they run, and behind that their lines.
use Rattle.std.specs.Prelude.{◌≡◌, ℕ, suc, ◌+◌, Bool, List, [], ◌∷◌, ◌++◌, Some, codes, flat_map}
use Rattle.std.specs.Fmt.{decimal}
use Rattle.ac_types.specs.Types.{Bytes}
use Rattle.ac_rules.specs.Views.{Mode}
use Rattle.ac_meaning.specs.Acts.{Outcome, Returned, Raised, Spent, Stuck, crossings_of}
use Rattle.ac_load_rules.specs.Accepting.{Shelved}
use Rattle.ac_load.specs.declared.kind.Kind.{Kind}
use Rattle.ac_colours.specs.Chains.{Programs}
use Rattle.ac_chain.specs.declared.chained.ChainFault.TheVariants.{Clash}
use Rattle.ac_chain.specs.ChainTexts.{LoadAs, RejectsFirst}
use Rattle.ac_chain.specs.Clashes.{first_program_clash}
use Rattle.ac_chain.specs.Natives.{natives, made_by}
use Rattle.ac_chain.specs.ChainMeaning.{Runs, console_of}
use Rattle.ac_chain.specs.StringLines.{native_line}
use Rattle.acute_answers.specs.declared.status.TheConstants.Status.{FINISHED, REFUSED, CLASH}
use Rattle.acute_answers.specs.Answers.{ShownAnswer, printing, telling}
use Rattle.acute_answers.specs.Reasons.{reason}

-- which program is refused, counted from 1, and why
abbrev pub program_line : ℕ → ℕ → Kind → Bytes
program_line program part kind = codes "acute: refused: program " ++ (decimal (suc program) ++ (codes ": " ++ reason part kind))

-- an entry of a program: programs are counted from 1, and entries from 0
abbrev pub entry_numbered : ℕ → ℕ → Bytes
entry_numbered program entry = codes "program " ++ (decimal (suc program) ++ (codes " entry " ++ decimal entry))

-- two entries of two programs that have one name and two texts
abbrev pub clash_line : ℕ → ℕ → ℕ → ℕ → Bytes
clash_line a i b j = codes "acute: clash: " ++ (entry_numbered a i ++ (codes ", " ++ (entry_numbered b j ++ 10 ∷ [])))

-- the status in a program's line
abbrev pub run_status : {A : Type 0} → Outcome A → ℕ
run_status (Returned v z) = 0
run_status (Raised x z) = 2
run_status (Spent z) = 3
run_status Stuck = 0

-- the line of program k, and one for each string that it read, where these were made in front of it
abbrev pub end_lines : {A : Type 0} → ℕ → List Bytes → Outcome A → Bytes
end_lines k made o = (codes "program " ++ (decimal k ++ (codes ": status " ++ (decimal (run_status o) ++ codes "\n")))) ++ flat_map native_line (natives made (crossings_of o))

-- those of programs that are counted from k on
abbrev pub lines_behind : {A : Type 0} → ℕ → List Bytes → List (Outcome A) → Bytes
lines_behind k made [] = []
lines_behind k made (o ∷ os) = end_lines k made o ++ lines_behind (k + 1) (made_by made (crossings_of o)) os

-- two entries of the programs clash, and these are the first
pub record ClashAt (texts : List Bytes) (shelf : List Shelved) (a i b j : ℕ) : Type 0 where
  pub programs : Programs
  pub load : LoadAs texts shelf programs
  pub is_first : first_program_clash 0 programs ≡ Some (Clash a i b j)

-- no run is stuck
abbrev pub IsNotStuck : {A : Type 0} → Outcome A → Type 0
IsNotStuck (Returned v z) = Unit {0}
IsNotStuck (Raised x z) = Unit {0}
IsNotStuck (Spent z) = Unit {0}
IsNotStuck Stuck = ⊥

abbrev pub NoneIsStuck : {A : Type 0} → List (Outcome A) → Type 0
NoneIsStuck [] = Unit {0}
NoneIsStuck (o ∷ os) = IsNotStuck o × NoneIsStuck os

-- a text is refused, two entries clash, or the programs run; what they print as they run stands first in the answer, and their lines follow it
pub data Chains (mode : Mode) (texts : List Bytes) (shelf : List Shelved) (steps : ℕ) (told : Bool) : Bytes → ShownAnswer → Type 0 where
  refused_program : (program part : ℕ) (kind : Kind) → RejectsFirst texts shelf program part kind → Chains mode texts shelf steps told [] (telling REFUSED (program_line program part kind))
  clashing : (a i b j : ℕ) → ClashAt texts shelf a i b j → Chains mode texts shelf steps told [] (telling CLASH (clash_line a i b j))
  ran : (r : Runs mode texts shelf steps told) → NoneIsStuck r.ends → Chains mode texts shelf steps told (console_of r.ends) (printing FINISHED (console_of r.ends ++ lines_behind 1 [] r.ends))

-- the same in each mode
abbrev pub ChainsInEach : List Bytes → List Shelved → ℕ → Bool → Bytes → ShownAnswer → Type 0
ChainsInEach texts shelf steps told console a = (mode : Mode) → Chains mode texts shelf steps told console a
