-- The standard modules `IO` and `Str`.
use Rattle.std.specs.Prelude.{ℕ, Bool, true, false, is_some, List, [], ◌∷◌, Option, Some, None, option_and_then, codes}
use Rattle.ac_types.specs.Primitives as primitives
use Rattle.ac_types.specs.Types.{Bytes, Typ, TInt, TStr, TUnit, TTuple, typs, same_bytes}

-- what stands beside a name in a table, the first time that it is there
abbrev pub beside_name : {A : Type 0} → Bytes → List (Bytes × A) → Option A
beside_name x [] = None
beside_name x (e ∷ table) = elim (same_bytes e.0 x) [ true ↦ Some e.1 | false ↦ beside_name x table ]

-- a primitive that programs call by a name: its number, and the type of its argument
pub record NamedPrimitive : Type 0 where
  pub number : ℕ
  pub argument : Typ

abbrev pub primitive_on : ℕ → Typ → NamedPrimitive
primitive_on number argument = record { number = number; argument = argument }

abbrev pub io : List (Bytes × NamedPrimitive)
io =
    (codes "print_int", primitive_on primitives.print_int TInt) ∷
    (codes "print_string", primitive_on primitives.print_string TStr) ∷
    (codes "send", primitive_on primitives.send TStr) ∷
    (codes "receive", primitive_on primitives.receive TUnit) ∷ []

abbrev pub str_primitives : List (Bytes × NamedPrimitive)
str_primitives =
    (codes "length", primitive_on primitives.length TStr) ∷
    (codes "sub", primitive_on primitives.sub_string (TTuple (typs (TStr ∷ TInt ∷ TInt ∷ [])))) ∷
    (codes "of_int", primitive_on primitives.of_int TInt) ∷ []

abbrev pub standard : List (Bytes × List (Bytes × NamedPrimitive))
standard = (codes "IO", io) ∷ (codes "Str", str_primitives) ∷ []

abbrev pub is_standard : Bytes → Bool
is_standard m = is_some (beside_name m standard)

-- the primitive that a standard module's name and a name behind the dot call
abbrev pub primitive_named : Bytes → Bytes → Option NamedPrimitive
primitive_named m x = option_and_then (beside_name x) (beside_name m standard)
