-- What machine values are, and parts of lists of them.
use Rattle.std.specs.Prelude.{ℕ, ℤ, zero, suc, Bool, true, false, Option, Some, None}
use Rattle.ac_types.specs.Types.{Bytes}
use Rattle.ac_values.specs.Values.{MValue, MInt, MBool, MStr, MUnit, MExn, MExnOf, MTuple, MNil, MCons, MAbsent, MPresent, MClosure, MMore, MValues}

-- the newest of a list, and the rest
abbrev pub newest_and_rest : MValue → Option (MValue × MValue)
newest_and_rest (MMore a b) = Some (a, b)
newest_and_rest _ = None

abbrev pub int_in : MValue → Option ℤ
int_in (MInt n) = Some n
int_in _ = None

abbrev pub bool_in : MValue → Option Bool
bool_in (MBool b) = Some b
bool_in _ = None

abbrev pub text_in : MValue → Option Bytes
text_in (MStr s) = Some s
text_in _ = None

-- the block, the mark and the environment of a closure
abbrev pub closure_in : MValue → Option (ℕ × Bool × MValue)
closure_in (MClosure f r es) = Some (f, r, es)
closure_in _ = None

-- entry i of a list
abbrev pub entry : ℕ → MValue → Option MValue
entry zero (MMore a b) = Some a
entry (suc i) (MMore a b) = entry i b
entry _ _ = None

-- without the n newest
abbrev pub without : ℕ → MValue → Option MValue
without zero t = Some t
without (suc n) (MMore a b) = without n b
without (suc n) _ = None

abbrev pub cons_in : MValue → Option (MValue × MValue)
cons_in (MCons a b) = Some (a, b)
cons_in m = None

abbrev pub present_in : MValue → Option MValue
present_in (MPresent a) = Some a
present_in m = None

abbrev pub tuple_in : MValue → Option MValues
tuple_in (MTuple ms) = Some ms
tuple_in m = None

-- an exception with a value, and one without
abbrev pub exn_with : MValue → Option (ℕ × MValue)
exn_with (MExnOf k a) = Some (k, a)
exn_with m = None

abbrev pub exn_without : MValue → Option ℕ
exn_without (MExn k) = Some k
exn_without m = None

abbrev pub is_unit : MValue → Bool
is_unit MUnit = true
is_unit m = false

abbrev pub is_nil : MValue → Bool
is_nil MNil = true
is_nil m = false

abbrev pub is_absent : MValue → Bool
is_absent MAbsent = true
is_absent m = false
