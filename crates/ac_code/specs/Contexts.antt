-- Contexts as the types of their variables, the newest first.
use Rattle.std.specs.Prelude.{List, [], ◌++◌, map, Option, None, Some}
use Rattle.std.specs.Borrow.{Bor}
use Rattle.ac_types.specs.Types.{Typ}
use Rattle.ac_types.specs.ReadTypes.{typ_of}
use Rattle.ac_code.specs.declared.context.Context.{Context}
use Rattle.ac_code.specs.declared.context.Bound.{Bound}
use Rattle.ac_code.specs.declared.context.Variables.{Variables}
use Rattle.ac_code.specs.declared.context.Context.TheOpen as code
use Rattle.ac_code.specs.declared.context.Context.TheFolds.{fold-Context, fold-Bound}

abbrev pub context_layer : code.Context-F (List Typ) (List Typ) → List Typ
context_layer code.Empty = []
context_layer (code.Newer bound) = bound

abbrev pub bound_layer : code.Bound-F (List Typ) (List Typ) → List Typ
bound_layer b = map typ_of b.types ++ b.outer

unfoldable pub context_of : Context → List Typ
context_of = fold-Context (List Typ) (List Typ) context_layer bound_layer

unfoldable pub bound_of : Bound → List Typ
bound_of = fold-Bound (List Typ) (List Typ) context_layer bound_layer

-- what is still to be read
abbrev pub types_behind : Option (Bor Context) → List Typ
types_behind None = []
types_behind (Some c) = context_of c.now

abbrev pub types_left : Variables → List Typ
types_left v = map typ_of v.newer.now ++ types_behind v.older
