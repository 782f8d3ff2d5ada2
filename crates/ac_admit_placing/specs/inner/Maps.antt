-- What the map of keys has.
use Rattle.std.specs.Prelude.{ℕ, Option}
use Rattle.std.specs.Ordering.{nat_cmp}
use Rattle.std.specs.Cmp.Lexicographic.{slice_cmp}
use Rattle.std.specs.BTreeMap.{BTreeMap, get}
use Rattle.std.specs.declared.vec.Vec.{Vec}
use Rattle.std.specs.declared.alloc.Global.{Global}

-- a key of the code
abbrev pub Key : Type 0
Key = Vec ℕ Global

-- the entry that a map has for a key
unfoldable pub key_found : BTreeMap Key ℕ → Key → Option ℕ
key_found keys k = get (λ (a : Key) (b : Key). slice_cmp nat_cmp a.items b.items) keys k
