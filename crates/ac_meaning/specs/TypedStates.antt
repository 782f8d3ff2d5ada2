-- Typed states.
use Rattle.std.specs.Prelude.{[]}
use Rattle.ac_types.specs.Types.{Typ}
use Rattle.ac_terms.specs.Terms.{Main, Expr, Value}
use Rattle.ac_rules.specs.Views.{Mode}
use Rattle.ac_rules.specs.Coherent.{IsCoherent}
use Rattle.ac_meaning.specs.Acts.{Returned, Raised, Spent, Stuck, State, At, Over}
use Rattle.ac_meaning.specs.Typed.{Typed, ValueTyped}

-- over coherent definitions, the term or the value in the end is of this type; where no rule is for the term, the state is not typed
abbrev pub IsTyped : Mode → Typ → State Expr Value → Type 0
IsTyped mode T (At e z) = IsCoherent z.environment × Typed mode z.environment e Main [] T
IsTyped mode T (Over (Returned v z)) = IsCoherent z.environment × ValueTyped mode z.environment v Main T
IsTyped mode T (Over (Raised x z)) = IsCoherent z.environment
IsTyped mode T (Over (Spent z)) = IsCoherent z.environment
IsTyped mode T (Over Stuck) = ⊥
