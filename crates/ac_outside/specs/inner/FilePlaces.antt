-- Where the first file of a name stands.
use Rattle.std.specs.Prelude.{◌≡◌, ℕ, zero, suc, List, [], ◌∷◌, true, false, bytes_eq, string_bytes}
use Rattle.ac_outside.specs.declared.files.MemoryFile.{MemoryFile}

-- the first file of that name stands there
abbrev pub StandsAt : List MemoryFile → List ℕ → ℕ → Type 0
StandsAt [] name i = ⊥
StandsAt (file ∷ files) name zero = bytes_eq (string_bytes file.name) name ≡ true
StandsAt (file ∷ files) name (suc i) = (bytes_eq (string_bytes file.name) name ≡ false) × StandsAt files name i

-- the files before that place have other names
abbrev pub Passed : List MemoryFile → List ℕ → ℕ → Type 0
Passed files name zero = Unit {0}
Passed [] name (suc i) = ⊥
Passed (file ∷ files) name (suc i) = (bytes_eq (string_bytes file.name) name ≡ false) × Passed files name i
