-- The line and the column of a byte, both from 1, by the bytes in front of it.
use Rattle.std.specs.Prelude.{ℕ, suc, ◌==◌, if◌then◌else◌, [], ◌∷◌}
use Rattle.ac_types.specs.Types.{Bytes}

-- how many line feeds stand in a text
unfoldable pub feeds : Bytes → ℕ
feeds [] = 0
feeds (b ∷ rest) = if b == 10 then suc (feeds rest) else feeds rest

-- how many bytes stand behind the last line feed, where n stand behind one in front of the text
unfoldable pub since_feed : ℕ → Bytes → ℕ
since_feed n [] = n
since_feed n (b ∷ rest) = if b == 10 then since_feed 0 rest else since_feed (suc n) rest

abbrev pub line_of : Bytes → ℕ
line_of bytes = suc (feeds bytes)

abbrev pub column_of : Bytes → ℕ
column_of bytes = suc (since_feed 0 bytes)
