-- Native strings: an earlier marshal of the chain gave them.
use Rattle.std.specs.Prelude.{Bool, List, [], ◌∷◌}
use Rattle.std.specs.List.{list_any}
use Rattle.ac_types.specs.Types.{Bytes, same_bytes}
use Rattle.ac_meaning.specs.Worlds.{Crossing, Made, Read}

-- whether a string is one of those that were made
abbrev pub is_made : List Bytes → Bytes → Bool
is_made made s = list_any (same_bytes s) made

-- for each string that is read, in order, whether it was made before, where these were made in front of all
abbrev pub natives : List Bytes → List Crossing → List Bool
natives made [] = []
natives made (Made s ∷ rest) = natives (s ∷ made) rest
natives made (Read s ∷ rest) = is_made made s ∷ natives made rest

-- the strings that are made then
abbrev pub made_by : List Bytes → List Crossing → List Bytes
made_by made [] = made
made_by made (Made s ∷ rest) = made_by (s ∷ made) rest
made_by made (Read s ∷ rest) = made_by made rest
