-- A file that is read from its start on, up to the limit.
use Rattle.std.specs.Prelude.{◌≡◌, ℕ, List, [], ◌++◌, take, Option, Some, None}
use Rattle.ac_types.specs.Limits.{longest_read}

-- the text is the file's, or its first `longest_read` bytes
abbrev pub IsFrontOf : Option (List ℕ) → List ℕ → Type 0
IsFrontOf (Some bytes) text = text ≡ take longest_read bytes
IsFrontOf None text = ⊥

-- the file begins with the text
abbrev pub Begins : Option (List ℕ) → List ℕ → Type 0
Begins (Some bytes) text = (rest : List ℕ) × (bytes ≡ text ++ rest)
Begins None text = text ≡ []
