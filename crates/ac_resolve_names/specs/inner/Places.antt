-- The places of names in a list whose latest is first.
use Rattle.std.specs.Prelude.{◌≡◌, ℕ, List, [], ◌∷◌, ◌++◌, map, Option}
use Rattle.std.specs.Prelude.{Vec}
use Rattle.std.specs.Ordering.{nat_cmp}
use Rattle.std.specs.Cmp.Lexicographic.{slice_cmp}
use Rattle.std.specs.BTreeMap.{BTreeMap, get_by}
use Rattle.ac_types.specs.Types.{Bytes}
use Rattle.ac_resolve_scopes.specs.Scopes.{own_number}

abbrev pub word_of : {A : Type 0} → Bytes × A → Bytes
word_of e = e.0

-- what the map has for a name
abbrev pub place_of_name : {Z : Type 0} → BTreeMap (Vec ℕ Z) ℕ → Bytes → Option ℕ
place_of_name m name = get_by (λ k. slice_cmp nat_cmp name k.items) m

-- the map has for each name how many came before the latest that is it
abbrev pub Places : {Z A : Type 0} → BTreeMap (Vec ℕ Z) ℕ → List (Bytes × A) → Type 0
Places m names = (name : Bytes) → place_of_name m name ≡ own_number name (map word_of names)

-- from the last to the first
abbrev pub backwards : {A : Type 0} → List A → List A
backwards [] = []
backwards (x ∷ xs) = backwards xs ++ x ∷ []
