-- Numbers that are noted under keys.
use Rattle.std.specs.Prelude.{ℕ, Bool, true, false, cond, nat_eq, nat_lt, List, [], ◌∷◌, Option, Some, None}
use Rattle.ac_types.specs.Types.{Bytes, same_bytes}

-- keys, each with its number
abbrev pub Noted : Type 0
Noted = List (Bytes × ℕ)

-- the number of a key
abbrev pub first_under : Noted → Bytes → Option ℕ
first_under [] k = None
first_under (e ∷ es) k = cond (same_bytes e.0 k) (Some e.1) (first_under es k)

-- none in the place of the number n
abbrev pub but : ℕ → Option ℕ → Option ℕ
but n None = None
but n (Some m) = cond (nat_eq m n) None (Some m)

-- the same under a test
abbrev pub forgetting : Bool → ℕ → Option ℕ → Option ℕ
forgetting true n o = but n o
forgetting false n o = o

-- whether a number is there, and below n
abbrev pub is_before : ℕ → Option ℕ → Bool
is_before n None = false
is_before n (Some m) = nat_lt m n
