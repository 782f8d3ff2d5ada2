-- Equal types, and tests of numbers.
use Rattle.std.proofs.Common.{◌≡◌, sym, ap, ◌∙◌, Bool, true, Some}
use Rattle.std.proofs.lemmas.Bool.Decides.{nat_tests}
use Rattle.ac_types.specs.Partial.{given}
use Rattle.ac_types.specs.Types.{Typ, TTuple, TStr, TInt, no_types, typ, same}
use Rattle.ac_types.proofs.Same.{same_eq}

pub ruleset number_tests = (nat_tests)

-- what a part of a text is taken of
abbrev pub slice_argument : Typ
slice_argument = TTuple (typ TStr (typ TInt (typ TInt no_types)))

-- a list whose first element is of the type of the others
pub cons_same : (T U : Typ) → same U T ≡ true → Some U ≡ given (same U T) (Some T)
cons_same T U e = ap Some (same_eq U T e) ∙ sym (ap (λ (b : Bool). given b (Some T)) e)
