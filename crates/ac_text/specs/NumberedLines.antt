-- Lines with numbers that count on.
use Rattle.std.specs.Prelude.{ℕ, ◌+◌, List, [], ◌∷◌, ◌++◌}
use Rattle.ac_types.specs.Types.{Bytes}

-- the lines of what is numbered from k on
abbrev pub lines_from : {A : Type 0} → (ℕ → A → Bytes) → ℕ → List A → Bytes
lines_from line k [] = []
lines_from line k (x ∷ xs) = line k x ++ lines_from line (k + 1) xs
