-- What becomes of an unmarshal.
use Rattle.std.specs.Prelude.{◌≡◌, ◌⊎◌, codes}
use Rattle.ac_types.specs.Types.{Bytes, Typ}
use Rattle.ac_terms.specs.Terms.{Expr, Evaluated, Value}
use Rattle.ac_meaning.specs.Worlds.{Exception, World}
use Rattle.ac_meaning.specs.Acts.{Act, Turns}
use Rattle.ac_meaning.specs.Packing.{raising, unmarshal_failure_exn, resolve_failure_exn}

-- it becomes a value
abbrev pub IsAccepted : Act Expr Value → Type 0
IsAccepted a = (y : World) × (T : Typ) × (v : Value) × (a ≡ Turns y (Evaluated T v))

-- it becomes the raise of this exception
abbrev pub BecomesRaise : Exception → Act Expr Value → Type 0
BecomesRaise x a = (y : World) × (T : Typ) × (a ≡ Turns y (raising T x))

-- the string is accepted, or refused as full or for want of a link
abbrev pub IsTakenAgain : Act Expr Value → Type 0
IsTakenAgain a = IsAccepted a ⊎ (BecomesRaise (unmarshal_failure_exn (codes "full")) a ⊎ ((name : Bytes) × BecomesRaise (resolve_failure_exn name) a))
