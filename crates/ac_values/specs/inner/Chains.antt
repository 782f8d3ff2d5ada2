-- Lists that share their tails.
use Rattle.std.specs.Prelude.{ℕ, suc, ◌≡◌, ◌<◌, List, [], ◌∷◌, Some, slice_get, get_or}
use Rattle.ac_values.specs.declared.chain.Cell.{Cell}
use Rattle.ac_values.specs.Building.{built}

abbrev pub list_of : {T : Type 0} → List (List T) → Cell T → List T
list_of ls c = c.item ∷ get_or ls c.below []

-- all lists, by their numbers
unfoldable pub lists : {T : Type 0} → List (Cell T) → List (List T)
lists cs = built list_of ([] ∷ []) cs

-- the rest of each list is an earlier one
abbrev pub AreEarlier : {T : Type 0} → List (Cell T) → Type 0
AreEarlier {T} cs = (k : ℕ) (c : Cell T) → slice_get cs k ≡ Some c → c.below < suc k
