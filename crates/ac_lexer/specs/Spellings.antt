-- Which bytes spell which token. A quote is 34, a backslash 92, a line feed 10, a small x 120.
use Rattle.std.specs.Prelude.{◌≡◌, ℕ, ◌+◌, ◌-◌, ◌*◌, ◌==◌, ◌<◌, ◌≤◌, ◌&&◌, ◌||◌, not, Bool, true, false, List, [], ◌∷◌, take, Option, Some, None, if◌then◌else◌, nat_le, nat_lt, length, slice_index, fold, codes, bytes_eq}
use Rattle.std.specs.List.{list_any, list_all}
use Rattle.ac_types.specs.Limits.{longest_word, literals_end}
use Rattle.ac_types.specs.Words.{is_between, is_start, is_part, is_reserved}
use Rattle.ac_lexer.specs.declared.tokens.TokenKind.{TokenKind}
use Rattle.ac_lexer.specs.declared.tokens.TokenKind.TheVariants.{Lower, Upper, Int, Str, Fixed}

-- a decimal digit
abbrev pub is_digit : ℕ → Bool
is_digit c = is_between 48 57 c

-- one or more digits
abbrev pub is_number : List ℕ → Bool
is_number bytes = is_digit (slice_index bytes 0) && list_all is_digit bytes

-- the number that digits write
abbrev pub value : List ℕ → ℕ
value bytes = fold (λ n c. 10 * n + (c - 48)) 0 bytes

-- a letter or `_`, then letters, digits, `_` and `'`
abbrev pub is_identifier : List ℕ → Bool
is_identifier bytes = is_start (slice_index bytes 0) && list_all is_part bytes

-- a reserved word is that word; another name is an identifier, upper where it begins with a letter A to Z
abbrev pub name_kind : List ℕ → TokenKind
name_kind bytes =
    if is_reserved bytes then Fixed (record { 0 = bytes }) else
    if is_between 65 90 (slice_index bytes 0) then Upper bytes else Lower bytes

-- the symbols, of one byte and of two
abbrev pub symbols : List (List ℕ)
symbols =
    codes "(" ∷ codes ")" ∷ codes "[" ∷ codes "]" ∷ codes "," ∷ codes ";" ∷ codes ":" ∷ codes "." ∷ codes "=" ∷ codes "<" ∷ codes "+" ∷ codes "-" ∷ codes "*" ∷ codes "/" ∷ codes "^" ∷ codes "::" ∷ codes "->" ∷ codes "&&" ∷ codes "||" ∷ codes "|" ∷ []

unfoldable pub is_symbol : List ℕ → Bool
is_symbol bytes = list_any (λ symbol. bytes_eq symbol bytes) symbols

-- the longest symbol that begins the text has `count` bytes; 0 where none begins it
abbrev pub SymbolBegins : List ℕ → ℕ → Type 0
SymbolBegins text count =
    (count ≤ 2) × (count ≤ length text) × (0 < count → is_symbol (take count text) ≡ true) × ((n : ℕ) → count < n → n ≤ 2 → n ≤ length text → is_symbol (take n text) ≡ false)

-- a byte that stands for itself in a string: any but `"`, `\` and line feed
abbrev pub is_plain : ℕ → Bool
is_plain c = not (c == 34 || c == 92 || c == 10)

-- the byte that a byte behind a `\` stands for
abbrev pub escaped_byte : ℕ → Option ℕ
escaped_byte c =
    if c == 92 then Some 92 else
    if c == 34 then Some 34 else
    if c == 110 then Some 10 else
    if c == 116 then Some 9 else
    if c == 114 then Some 13 else None

-- the value of a hexadecimal digit of either case
abbrev pub hex_value : ℕ → Option ℕ
hex_value c =
    if is_between 48 57 c then Some (c - 48) else
    if is_between 65 70 c then Some (c - 55) else
    if is_between 97 102 c then Some (c - 87) else None

-- a string's text goes on with this byte, as itself or as an escape, and `rest` is behind it
pub data Piece : List ℕ → ℕ → List ℕ → Type 0 where
  itself : {c : ℕ} {rest : List ℕ} → is_plain c ≡ true → Piece (c ∷ rest) c rest
  escape : {c b : ℕ} {rest : List ℕ} → escaped_byte c ≡ Some b → Piece (92 ∷ c ∷ rest) b rest
  hex : {high low m n : ℕ} {rest : List ℕ} → hex_value high ≡ Some m → hex_value low ≡ Some n → Piece (92 ∷ 120 ∷ high ∷ low ∷ rest) (16 * m + n) rest

-- a string from behind its first `"` on: these bytes, then a `"`, and `rest` is behind that
pub data Quoted : List ℕ → List ℕ → List ℕ → Type 0 where
  quote : {rest : List ℕ} → Quoted (34 ∷ rest) [] rest
  more : {text after content rest : List ℕ} {b : ℕ} → Piece text b after → Quoted after content rest → Quoted text (b ∷ content) rest

-- the bytes spell the token, whatever its size
pub data SpellsToken : List ℕ → TokenKind → Type 0 where
  number : {bytes : List ℕ} → is_number bytes ≡ true → SpellsToken bytes (Int (value bytes))
  name : {bytes : List ℕ} → is_identifier bytes ≡ true → SpellsToken bytes (name_kind bytes)
  symbol : {bytes : List ℕ} → is_symbol bytes ≡ true → SpellsToken bytes (Fixed (record { 0 = bytes }))
  string : {bytes content : List ℕ} → Quoted bytes content [] → SpellsToken (34 ∷ bytes) (Str (record { 0 = content }))

-- a number is below `literals_end`, and an identifier has at most `longest_word` bytes
abbrev pub is_within_limits : TokenKind → Bool
is_within_limits (Lower word) = nat_le (length word) longest_word
is_within_limits (Upper word) = nat_le (length word) longest_word
is_within_limits (Int n) = nat_lt n literals_end
is_within_limits (Str _) = true
is_within_limits (Fixed _) = true
