-- Names with their texts.
use Rattle.std.specs.Prelude.{◌≡◌, ◌≢◌, ℕ, List, [], ◌∷◌, ◌++◌, length, map, Option, Some, position, slice_get, MatchOption}
use Rattle.std.specs.List.{IsDistinct}
use Rattle.ac_types.specs.Types.{Bytes, same_bytes}

-- a name's number is its place
abbrev pub KnownNames : Type 0
KnownNames = List (Bytes × Bytes)

abbrev pub number_of : KnownNames → Bytes → Option ℕ
number_of table name = position (λ (p : Bytes × Bytes). same_bytes name p.0) table

-- a new name goes last; a known one has this text already, and the table stays
abbrev pub Adds : KnownNames → Bytes → Bytes → ℕ → KnownNames → Type 0
Adds old name text number new = MatchOption (number_of old name)
    ((number ≡ length old) × (new ≡ old ++ (name, text) ∷ []))
    (λ known. (number ≡ known) × (slice_get old known ≡ Some (name, text)) × (new ≡ old))

-- the name has that number, and another text
abbrev pub Clashes : KnownNames → Bytes → Bytes → ℕ → Type 0
Clashes table name text number = (number_of table name ≡ Some number) × (slice_get table number ≢ Some (name, text))

-- no two numbers have one name
abbrev pub HasDistinctNames : KnownNames → Type 0
HasDistinctNames table = IsDistinct same_bytes (map (λ (p : Bytes × Bytes). p.0) table)
