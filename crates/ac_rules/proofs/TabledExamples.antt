-- Marshalling with a table of types, computed.
use Rattle.std.proofs.Common.{◌≡◌, refl}
use Rattle.std.specs.Prelude.{pos, [], ◌∷◌, Some, None, codes}
use Rattle.ac_types.specs.Types.{Typ, TInt, TUnit, TFun, TTuple, typs}
use Rattle.ac_terms.specs.Terms.{Main, Lam, Var, KInt, KUnit, KTuple, KFun, pvalues}
use Rattle.ac_terms.specs.Defs.{Environment, AMark, Own'}
use Rattle.ac_terms.proofs.Samples.{pair_type}
use Rattle.ac_terms.proofs.TableExamples.{five_tabled}
use Rattle.ac_rules.specs.Faults.{NoMark, Depth, Function, Size, NoString, AString, first_fault}
use Rattle.ac_rules.specs.Plain.{stays}
use Rattle.ac_rules.specs.TabledFaults.{numbered_heads, marshalled_tabled}

-- a program that has a mark alone
abbrev marked : Environment
marked = record { def = AMark (codes "MK"); name = None; seen = Own'; link = None } ∷ []

pub five_marshalled : marshalled_tabled marked (codes "MK") TInt (KInt (pos 5)) ≡ AString five_tabled
five_marshalled = refl

pub no_mark : marshalled_tabled [] (codes "MK") TInt (KInt (pos 5)) ≡ NoString NoMark
no_mark = refl

-- a type counts as four bytes, however long it is: four for the packet's own, one for unit
pub fits_in_five : first_fault 500 5 0 (numbered_heads pair_type KUnit) ≡ None
fits_in_five = refl

pub not_in_four : first_fault 500 4 0 (numbered_heads pair_type KUnit) ≡ Some Size
not_in_four = refl

-- the first part that fails decides: what can't travel before what is too long behind it, what nests too far before both
abbrev pair_of_units : Typ
pair_of_units = TTuple (typs (TUnit ∷ TUnit ∷ []))

pub function_first : first_fault 500 9 0 (numbered_heads pair_of_units (KTuple (pvalues (stays ∷ KInt (pos 5) ∷ [])))) ≡ Some Function
function_first = refl

pub size_first : first_fault 500 9 0 (numbered_heads pair_of_units (KTuple (pvalues (KInt (pos 5) ∷ stays ∷ [])))) ≡ Some Size
size_first = refl

pub size_before_depth : first_fault 1 5 0 (numbered_heads pair_of_units (KTuple (pvalues (stays ∷ KInt (pos 5) ∷ [])))) ≡ Some Size
size_before_depth = refl

pub depth_before_function : first_fault 1 6 0 (numbered_heads pair_of_units (KTuple (pvalues (stays ∷ KInt (pos 5) ∷ [])))) ≡ Some Depth
depth_before_function = refl

-- a lambda's head has its type's number in it: tag, home, tag, number, then the variable
pub lambda_in : first_fault 500 15 0 (numbered_heads (TFun TInt TInt) (KFun Main (Lam TInt (Var 0)))) ≡ None
lambda_in = refl

pub lambda_out : first_fault 500 14 0 (numbered_heads (TFun TInt TInt) (KFun Main (Lam TInt (Var 0)))) ≡ Some Size
lambda_out = refl
