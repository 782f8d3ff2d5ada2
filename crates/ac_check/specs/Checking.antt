-- What the checker answers.
use Rattle.std.specs.Prelude.{◌≡◌, ⊤, Bool, false, Option, Some, None, Result, Ok, Err}
use Rattle.ac_types.specs.Types.{Typ}
use Rattle.ac_types.specs.ReadTypes.{typ_of}
use Rattle.ac_types.specs.declared.ty.Ty.{Ty}
use Rattle.ac_check.specs.declared.fault.CheckFault.{CheckFault}
use Rattle.ac_check.specs.declared.fault.CheckFault.TheVariants as fault

-- the answer is the type, ill-typed exactly where there is none, or want of memory
abbrev pub Answers : Result Ty CheckFault → Option Typ → Type 0
Answers (Ok t) o = o ≡ Some (typ_of t)
Answers (Err fault.IllTyped) o = o ≡ None
Answers (Err fault.Memory) o = ⊤

-- a value is refused as ill-typed exactly where it isn't of the type, or for want of memory
abbrev pub RefusesWhere : CheckFault → Bool → Type 0
RefusesWhere fault.IllTyped b = b ≡ false
RefusesWhere fault.Memory b = ⊤
