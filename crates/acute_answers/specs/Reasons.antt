-- Why a text is refused, in a line: which part of it, a word and a number.
use Rattle.std.specs.Prelude.{ℕ, ◌==◌, List, [], ◌∷◌, ◌++◌, codes, if◌then◌else◌}
use Rattle.std.specs.Fmt.{decimal}
use Rattle.ac_load.specs.declared.kind.Kind.{Kind}
use Rattle.ac_load.specs.declared.kind.Kind.TheVariants.{TooLong, Lexical, TooDeep, Syntax, Unbound, Repeated, TooMany, IllTyped, Signature, NotValuable, LikeMissing, Unresolved, Clash, Memory}

-- a kind's word
abbrev pub kind_word : Kind → List ℕ
kind_word (TooLong len) = codes "too_long"
kind_word (Lexical at) = codes "lexical"
kind_word (TooDeep at) = codes "too_deep"
kind_word (Syntax at) = codes "syntax"
kind_word (Unbound at) = codes "unbound"
kind_word (Repeated at) = codes "repeated"
kind_word (TooMany count) = codes "too_many"
kind_word (IllTyped def) = codes "type"
kind_word (Signature def spec) = codes "signature"
kind_word (NotValuable def field) = codes "not_valuable"
kind_word (LikeMissing def spec) = codes "like_missing"
kind_word (Unresolved def) = codes "unresolved"
kind_word (Clash first second) = codes "clash"
kind_word Memory = []

-- and its number
abbrev pub told_number : Kind → ℕ
told_number (TooLong len) = len
told_number (Lexical at) = at
told_number (TooDeep at) = at
told_number (Syntax at) = at
told_number (Unbound at) = at
told_number (Repeated at) = at
told_number (TooMany count) = count
told_number (IllTyped def) = def
told_number (Signature def spec) = def
told_number (NotValuable def field) = def
told_number (LikeMissing def spec) = def
told_number (Unresolved def) = def
told_number (Clash first second) = second
told_number Memory = 0

-- part 0 is the program, and part k the kth text of the shelf
abbrev pub part_shown : ℕ → List ℕ
part_shown part = if part == 0 then [] else codes "shelf " ++ (decimal part ++ codes ": ")

-- `WORD at N` of the program, `shelf K: WORD at N` of a text of the shelf, and the end of the line
abbrev pub reason : ℕ → Kind → List ℕ
reason part kind = part_shown part ++ (kind_word kind ++ (codes " at " ++ (decimal (told_number kind) ++ 10 ∷ [])))
