-- The primitives of the code as those of the definitions.
use Rattle.std.specs.Prelude.{List, [], ◌∷◌}
use Rattle.ac_types.specs.Primitives as primitives
use Rattle.ac_types.specs.Types.{Bytes, TInt, TStr, TUnit, TTuple, typs}
use Rattle.ac_resolve_scopes.specs.Standard as standard
use Rattle.ac_resolve_scopes.specs.Standard.{primitive_on, io, str_primitives}
use Rattle.ac_resolve_names.specs.declared.primitive.NamedPrimitive.{NamedPrimitive}
use Rattle.ac_resolve_names.specs.declared.primitive.NamedPrimitive.TheVariants.{PrintInt, PrintString, Send, Receive, Length, Sub, OfInt}
use Rattle.ac_resolve_names.specs.declared.primitive.Standard.{Standard}
use Rattle.ac_resolve_names.specs.declared.primitive.Standard.TheVariants.{Io, Str}

abbrev pub read_primitive : NamedPrimitive → standard.NamedPrimitive
read_primitive PrintInt = primitive_on primitives.print_int TInt
read_primitive PrintString = primitive_on primitives.print_string TStr
read_primitive Send = primitive_on primitives.send TStr
read_primitive Receive = primitive_on primitives.receive TUnit
read_primitive Length = primitive_on primitives.length TStr
read_primitive Sub = primitive_on primitives.sub_string (TTuple (typs (TStr ∷ TInt ∷ TInt ∷ [])))
read_primitive OfInt = primitive_on primitives.of_int TInt

-- the table of a standard module
abbrev pub builtins_of : Standard → List (Bytes × standard.NamedPrimitive)
builtins_of Io = io
builtins_of Str = str_primitives
