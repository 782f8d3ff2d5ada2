-- What lists, tuples and functions look like.
use Rattle.std.specs.Prelude.{ℕ, zero, suc, Option, Some, None, option_map}
use Rattle.ac_values.specs.Values.{MValue, MNil, MCons}

-- how many items a list has, if it is one
abbrev pub items_counted : MValue → Option ℕ
items_counted MNil = Some 0
items_counted (MCons a b) = option_map suc (items_counted b)
items_counted m = None

-- the same of what has no first item
abbrev pub counted_none : MValue → Option ℕ
counted_none MNil = Some 0
counted_none m = None

-- how many parts a tuple is packed with, where it has so many and its type so many
abbrev pub paired : ℕ → ℕ → ℕ
paired zero zero = 0
paired zero (suc n) = 1
paired (suc m) zero = 1
paired (suc m) (suc n) = suc (paired m n)
