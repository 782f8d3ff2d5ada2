-- The set of the strings that were made.
use Rattle.std.specs.Prelude.{◌≡◌, ℕ, Bool, List}
use Rattle.std.specs.Ordering.{nat_cmp}
use Rattle.std.specs.Cmp.Lexicographic.{slice_cmp}
use Rattle.std.specs.BTreeSet.{BTreeSet, contains_by}
use Rattle.std.specs.declared.vec.Vec.{Vec}
use Rattle.std.specs.declared.alloc.Global.{Global}
use Rattle.ac_types.specs.Types.{Bytes}
use Rattle.ac_run.specs.Journals.{read_journal}
use Rattle.ac_run.specs.declared.crossing.Crossing as code
use Rattle.ac_chain.specs.Natives.{is_made, natives, made_by}

abbrev pub Strings : Type 0
Strings = BTreeSet (Vec ℕ Global)

-- whether the set has a string
abbrev pub has_string : Strings → Bytes → Bool
has_string set s = contains_by (λ (k : Vec ℕ Global). slice_cmp nat_cmp s k.items) set

-- it has these strings, and no others
abbrev pub Has : Strings → List Bytes → Type 0
Has set made = (s : Bytes) → has_string set s ≡ is_made made s

-- these say which of a journal's strings are native, and the set has those that were made then
abbrev pub NativeBy : Strings → List code.Crossing → List Bool → Type 0
NativeBy made journal native = (earlier : List Bytes) → Has made earlier → native ≡ natives earlier (read_journal journal)

abbrev pub MadeBy : Strings → List code.Crossing → Strings → Type 0
MadeBy old journal new = (earlier : List Bytes) → Has old earlier → Has new (made_by earlier (read_journal journal))
