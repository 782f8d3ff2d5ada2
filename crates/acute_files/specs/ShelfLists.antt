-- The list of a shelf: which file has the text of which URI, or the first line that is bad.
use Rattle.std.specs.Prelude.{ℕ, ◌+◌, ◌==◌, ◌&&◌, Bool, not, List, [], ◌∷◌, ◌++◌, length, map, nat_lt, nat_le, Option, Some, None, is_some, if◌then◌else◌, string_bytes}
use Rattle.std.specs.List.{before_first, after_first, concat, flat_map, list_all, list_any}
use Rattle.std.specs.Str.{is_utf8}
use Rattle.ac_types.specs.Types.{Bytes}
use Rattle.ac_rules.specs.Modules.{are_distinct}
use Rattle.ac_types.specs.Limits.{is_uri, longest_shelf_list, most_shelf_entries}
use Rattle.acute_files.specs.declared.list.ShelfLine as code_line

-- a URI, and the name of the file that has its text
pub record Listed : Type 0 where
  pub uri : Bytes
  pub file : Bytes

-- a list with its entries, or the number of its first bad line, from 1
pub data ShelfAnswer : Type 0 where
  Lists : List Listed → ShelfAnswer
  BadLine : ℕ → ShelfAnswer

abbrev pub is_feed : ℕ → Bool
is_feed byte = byte == 10

abbrev pub is_space : ℕ → Bool
is_space byte = byte == 32

-- a byte in front of lines
abbrev pub byte_in_front : ℕ → List Bytes → List Bytes
byte_in_front byte [] = (byte ∷ []) ∷ []
byte_in_front byte (line ∷ rest) = (byte ∷ line) ∷ rest

-- the lines of a text with their line feeds, which the last one may lack
abbrev pub lines : Bytes → List Bytes
lines [] = []
lines (byte ∷ rest) =
    if is_feed byte then (byte ∷ []) ∷ lines rest else byte_in_front byte (lines rest)

-- FILE: UTF-8 without spaces, at least a byte of it
abbrev pub is_listed_file : Bytes → Bool
is_listed_file file = nat_lt 0 (length file) && (not (list_any is_space file) && is_utf8 file)

-- URI FILE
abbrev pub pair_of : Bytes → Bytes → Option (List Listed)
pair_of uri file = if is_uri uri && is_listed_file file then Some (record { uri = uri; file = file } ∷ []) else None

-- what a line has, without its feed: nothing where it is empty, and else a URI and a FILE that one space parts; or it has no such form
abbrev pub line_has : Bytes → Option (List Listed)
line_has [] = Some []
line_has (byte ∷ rest) = pair_of (before_first is_space (byte ∷ rest)) (after_first is_space (byte ∷ rest))

abbrev pub without_feed : Bytes → Bytes
without_feed line = before_first is_feed line

abbrev pub has_form : Bytes → Bool
has_form line = is_some (line_has (without_feed line))

abbrev pub had_of : Option (List Listed) → List Listed
had_of None = []
had_of (Some xs) = xs

abbrev pub entry_of_line : Bytes → List Listed
entry_of_line line = had_of (line_has (without_feed line))

abbrev pub entries_of_lines : List Bytes → List Listed
entries_of_lines ls = flat_map entry_of_line ls

abbrev pub listed_uris : List Listed → List Bytes
listed_uris xs = map (λ (x : Listed). x.uri) xs

-- lines that may begin a list: each has its form, they have neither too many bytes nor too many entries, and no URI twice
abbrev pub are_good : List Bytes → Bool
are_good ls = list_all has_form ls && (nat_le (length (concat ls)) longest_shelf_list && (nat_le (length (entries_of_lines ls)) most_shelf_entries && are_distinct (listed_uris (entries_of_lines ls))))

-- lines behind good ones: the first that isn't good with those in front of it is bad
abbrev pub answer_behind : List Bytes → List Bytes → ShelfAnswer
answer_behind before [] = Lists (entries_of_lines before)
answer_behind before (line ∷ rest) = if are_good (before ++ line ∷ []) then answer_behind (before ++ line ∷ []) rest else BadLine (length before + 1)

-- what a list says
abbrev pub shelf_answer : Bytes → ShelfAnswer
shelf_answer text = answer_behind [] (lines text)

-- the entries of the code as those of the definition
abbrev pub listed_of : code_line.ShelfLine → Listed
listed_of x = record { uri = x.uri.0; file = string_bytes x.file }
