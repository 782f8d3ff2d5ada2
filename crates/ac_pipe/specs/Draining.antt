-- What is dropped of what a child gives behind the end of its receiver.
use Rattle.std.specs.Prelude.{◌≡◌, ◌⊎◌, ◌+◌, ◌≤◌, ℕ, List, [], length}

-- at most so many bytes
abbrev pub most_dropped : ℕ
most_dropped = 67108864

-- nothing is left, or so many bytes were taken
abbrev pub IsDrained : List ℕ → List ℕ → Type 0
IsDrained old new = (new ≡ []) ⊎ (most_dropped + length new ≤ length old)
