-- What is there or not: guards, alternatives, and two things of which both are there. Where something isn't there, it is `None`.
use Rattle.std.specs.Prelude.{ℕ, suc, Bool, true, false, not, List, [], ◌∷◌, position, Option, Some, None}
use Rattle.std.specs.Option.{option_or}
use Rattle.ac_types.specs.Types.{Bytes, Typ, Typs, typ, same, same_bytes}

-- the guard: what is given where a test passes
abbrev pub given : {A : Type 0} → Bool → Option A → Option A
given true o = o
given false o = None

-- the alternative of many: the first that is there
abbrev pub first_some : {A : Type 0} → List (Option A) → Option A
first_some [] = None
first_some (o ∷ os) = option_or o (first_some os)

-- the number of the first that fails
abbrev pub first_failing : {A : Type 0} → (A → Bool) → List A → Option ℕ
first_failing test xs = position (λ x. not (test x)) xs

-- the first of a list that fails a test of its number and itself
abbrev pub first_wrong : {A : Type 0} → ℕ → (ℕ → A → Bool) → List A → Option ℕ
first_wrong k test [] = None
first_wrong k test (x ∷ xs) = elim (test k x) [ true ↦ first_wrong (suc k) test xs | false ↦ Some k ]

-- a type that is there, and is this one
abbrev pub has : Option Typ → Typ → Bool
has None U = false
has (Some T) U = same T U

-- both types are there, and the same
abbrev pub agree : Option Typ → Option Typ → Bool
agree (Some T) (Some U) = same T U
agree _ _ = false

-- the one type that both have
abbrev pub both_same : Option Typ → Option Typ → Option Typ
both_same None b = None
both_same (Some T) b = given (has b T) (Some T)

-- the zip: a type before others, where all are there
abbrev pub also : Option Typ → Option Typs → Option Typs
also (Some T) (Some Ts) = Some (typ T Ts)
also _ _ = None

-- both names are there, and the same
abbrev pub alike : Option Bytes → Option Bytes → Bool
alike (Some m) (Some n) = same_bytes m n
alike _ _ = false

-- both texts are there, and they differ
abbrev pub differ : Option Bytes → Option Bytes → Bool
differ (Some s) (Some t) = not (same_bytes s t)
differ _ _ = false
