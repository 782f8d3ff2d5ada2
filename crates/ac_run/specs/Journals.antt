-- Journals: the strings that crossed in a run, as a session keeps them.
use Rattle.std.specs.Prelude.{◌≡◌, Bool, true, false, List, [], ◌++◌, map}
use Rattle.ac_meaning.specs.Worlds.{Crossing, Made, Read}
use Rattle.ac_run.specs.declared.crossing.Crossing as code
use Rattle.ac_run.specs.declared.crossing.Crossing.TheVariants as crossing

abbrev pub crossing_of : code.Crossing → Crossing
crossing_of (crossing.Made s) = Made s.0
crossing_of (crossing.Read s) = Read s.0

-- a journal's crossings, in their order
abbrev pub read_journal : List code.Crossing → List Crossing
read_journal journal = map crossing_of journal

-- what is noted of crossings: all of them where a journal is kept, and else none
abbrev pub noted : Bool → List Crossing → List Crossing
noted true all = all
noted false all = []

-- a list begins so
abbrev pub BeginsWith : {A : Type 0} → List A → List A → Type 0
BeginsWith {A} front all = (rest : List A) × (all ≡ front ++ rest)
