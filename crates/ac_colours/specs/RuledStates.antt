-- States that have a type by the rules of typing, so that the type of each part is small.
use Rattle.std.specs.Prelude.{◌≡◌, false, Some, IsTrue}
use Rattle.ac_types.specs.Types.{Typ}
use Rattle.ac_terms.specs.PrimitiveTypes.{is_exception}
use Rattle.ac_terms.specs.Terms.{Main, Expr, Value}
use Rattle.ac_rules.specs.Views.{Coloured}
use Rattle.ac_rules.specs.Typing.{HasType, all_of, value_type}
use Rattle.ac_meaning.specs.Acts.{Returned, Raised, Spent, Stuck, State, At, Over}

-- the term, or the value in the end, has the type; an exception in the end has a text exactly where its number wants one. Where no rule is for the term, the state has none
abbrev pub IsRuled : Typ → State Expr Value → Type 0
IsRuled T (At e z) = HasType Coloured z.environment (all_of z.environment Main) e T
IsRuled T (Over (Returned v z)) = value_type Coloured false z.environment Main v ≡ Some T
IsRuled T (Over (Raised x z)) = IsTrue (is_exception x.number x.text)
IsRuled T (Over (Spent z)) = Unit {0}
IsRuled T (Over Stuck) = ⊥
