-- Bytes as a string literal.
use Rattle.std.specs.Prelude.{ℕ, ◌+◌, ◌/◌, ◌%◌, ◌==◌, ◌&&◌, nat_lt, nat_le, if◌then◌else◌, [], ◌∷◌, ◌++◌, codes}
use Rattle.std.specs.List.{flat_map}
use Rattle.ac_types.specs.Types.{Bytes}

-- a digit to the base 16, with lower-case letters
abbrev pub hex_digit : ℕ → ℕ
hex_digit n = if nat_lt n 10 then n + 48 else n + 87

-- how a byte stands in a string literal
abbrev pub escaped : ℕ → Bytes
escaped c =
    if c == 92 then codes "\\\\" else
    if c == 34 then codes "\\\"" else
    if c == 10 then codes "\\n" else
    if c == 9 then codes "\\t" else
    if c == 13 then codes "\\r" else
    if nat_le 32 c && nat_le c 126 then c ∷ [] else
    codes "\\x" ++ hex_digit (c / 16) ∷ hex_digit (c % 16) ∷ []

-- bytes as a string literal
abbrev pub literal : Bytes → Bytes
literal bytes = 34 ∷ (flat_map escaped bytes ++ 34 ∷ [])
