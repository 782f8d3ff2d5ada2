-- What the parts of the checker are given and answer, in terms of the definition of typing.
use Rattle.std.specs.Prelude.{true, List, ◌∷◌, ◌++◌, map, reverse, Option, Some, None, option_and_then}
use Rattle.ac_types.specs.Partial.{given}
use Rattle.ac_types.specs.Types.{Typ, Typs}
use Rattle.ac_types.specs.ReadTypes.{typ_of}
use Rattle.ac_types.specs.declared.ty.Ty.{Ty}
use Rattle.ac_terms.specs.Terms.{Pattern, Expr}
use Rattle.ac_terms.specs.Defs.{Environment}
use Rattle.ac_rules.specs.Views.{Coloured}
use Rattle.ac_rules.specs.Typing.{Scope, bind_all, type_of, variables, one_of, are_all}
use Rattle.ac_check_terms.specs.declared.scope.TypeScope.{TypeScope, fold-TypeScope}
use Rattle.ac_check_terms.specs.declared.scope.TypeScope.TheOpen.{TypeScope-F}

-- the types of a pattern's variables, which are found from left to right
abbrev pub newest_first : List Ty → List Typ
newest_first ts = reverse (map typ_of ts)

-- the types of the variables, the newest first
abbrev pub variables_step : TypeScope-F (List Typ) → List Typ
variables_step (TypeScope-F.Given types) = map typ_of types.now
variables_step (TypeScope-F.One outer ty) = typ_of ty.now ∷ outer.now
variables_step (TypeScope-F.More outer types) = newest_first types.now ++ outer.now

unfoldable pub types_in : TypeScope → List Typ
types_in = fold-TypeScope (List Typ) variables_step

-- the type of an arm's body, whose pattern has type T
abbrev pub arm_type : Environment → Scope → Typ → Pattern → Expr → Option Typ
arm_type E S T p e = option_and_then (λ Us. type_of Coloured true E (bind_all Us S) e) (variables Coloured true E S.home p T)

-- the one type of some arms, where the arms before them have this type, if there are any
abbrev pub arms_after : Option Typ → Option Typs → Option Typ
arms_after None o = option_and_then one_of o
arms_after (Some T) o = option_and_then (λ Ts. given (are_all T Ts) (Some T)) o

-- the same, where there are arms before them, which have one type
abbrev pub arms_from : Option Typ → Option Typs → Option Typ
arms_from None o = None
arms_from (Some T) o = arms_after (Some T) o
