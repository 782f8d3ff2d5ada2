-- What the pieces of a list give, joined.
use Rattle.std.specs.Prelude.{List, [], ◌∷◌, ◌++◌, Option, Some, None, option_map, Result, Ok, Err}
use Rattle.ac_types.specs.declared.memory.Memory.{Memory}

-- what all pieces give, one behind another, where each gives something
abbrev pub joined : {A : Type 0} → List (Result (List A) Memory) → Option (List A)
joined [] = Some []
joined (Ok xs ∷ rest) = option_map (λ ys. xs ++ ys) (joined rest)
joined (Err memory ∷ rest) = None
