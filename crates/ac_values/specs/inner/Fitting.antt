-- What a test of a pattern leaves.
use Rattle.std.specs.Prelude.{◌≡◌, ◌<◌, length, Bool, true, false, List, [], ◌∷◌, Option, Some, None}
use Rattle.std.specs.List.{All}
use Rattle.ac_values.specs.Values.{MValue, MMore, stands_as}
use Rattle.ac_values.specs.declared.node.Node.{Node}
use Rattle.ac_values.specs.declared.node.Value.{Value}

-- an environment with further values, the last the newest
abbrev pub environment_with : List Node → List Value → MValue → MValue
environment_with ns [] es = es
environment_with ns (v ∷ vs) es = environment_with ns vs (MMore (stands_as ns v.0) es)

-- what a pattern's variables come to: with further values where it fits, and nothing where it doesn't
abbrev pub Fitted : List Node → (MValue → Option MValue) → List Value → List Value → Bool → Type 0
Fitted ns binding old new true = All (λ v. v.0 < length ns) new × ((es : MValue) → binding (environment_with ns old es) ≡ Some (environment_with ns new es))
Fitted ns binding old new false = (es : MValue) → binding es ≡ None

-- a test of a pattern without variables
abbrev pub Tested : (MValue → Option MValue) → Bool → Type 0
Tested binding true = (es : MValue) → binding es ≡ Some es
Tested binding false = (es : MValue) → binding es ≡ None
