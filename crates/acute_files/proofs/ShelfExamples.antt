-- Lists of a shelf, and what they say.
use Rattle.std.proofs.Common.{◌≡◌, refl, [], ◌∷◌, ◌++◌, zero, suc, codes, true, arith}
use Rattle.std.specs.Prelude.{nat_lt}
use Rattle.std.specs.List.{list_all}
use Rattle.std.specs.Str.{IsAscii, is_utf8}
use Rattle.std.proofs.lemmas.Bool.{ltb-true}
use Rattle.std.proofs.lemmas.Str.{IsUtf8-from_ascii, is_utf8-from_IsUtf8}
use Rattle.ac_types.proofs.Same.{both_true}
use Rattle.ac_types.specs.Types.{Bytes}
use Rattle.acute_files.specs.ShelfLists.{Lists, BadLine, lines, shelf_answer}

abbrev feed : Bytes
feed = 10 ∷ []

-- bytes below 128 are UTF-8
below : (bs : Bytes) → list_all (λ b. nat_lt b 128) bs ≡ true → IsAscii bs
below [] h zero = omega arith
below [] h (suc i) = omega arith
below (b ∷ bs) h zero = ltb-true b 128 (both_true (nat_lt b 128) _ h).0
below (b ∷ bs) h (suc i) = below bs (both_true (nat_lt b 128) _ h).1 i

ascii : (bs : Bytes) → list_all (λ b. nat_lt b 128) bs ≡ true → is_utf8 bs ≡ true
ascii bs h = is_utf8-from_IsUtf8 bs (IsUtf8-from_ascii bs (below bs h))

-- the lines keep their feeds, and the last may lack one
three_lines : lines (codes "a" ++ feed ++ feed ++ codes "b") ≡ (97 ∷ 10 ∷ []) ∷ (10 ∷ []) ∷ (98 ∷ []) ∷ []
three_lines = refl

ended : lines (codes "a" ++ feed) ≡ (97 ∷ 10 ∷ []) ∷ []
ended = refl

-- nothing at all, and two entries with an empty line between them and no feed at the end
nothing : shelf_answer [] ≡ Lists []
nothing = refl

two : shelf_answer (codes "lib:p p.mod" ++ feed ++ feed ++ codes "q r") ≡ Lists (record { uri = codes "lib:p"; file = codes "p.mod" } ∷ record { uri = codes "q"; file = codes "r" } ∷ [])
two =
    let one = ascii (codes "p.mod") refl in
    let other = ascii (codes "r") refl in
    rw (one, other) refl

-- no FILE; a second space; a space in front; an empty FILE
no_file : shelf_answer (codes "lib:p" ++ feed) ≡ BadLine 1
no_file = refl

two_spaces : shelf_answer (codes "a b" ++ feed ++ codes "lib:p  p.mod") ≡ BadLine 2
two_spaces =
    let b = ascii (codes "b") refl in
    rw b refl

three_words : shelf_answer (codes "a b c") ≡ BadLine 1
three_words = refl

space_first : shelf_answer (codes " a b") ≡ BadLine 1
space_first = refl

space_alone : shelf_answer (codes " ") ≡ BadLine 1
space_alone = refl

empty_file : shelf_answer (codes "a " ++ feed) ≡ BadLine 1
empty_file = refl

-- a URI twice; the empty line in front is counted
twice : shelf_answer (codes "a b" ++ feed ++ feed ++ codes "a c" ++ feed ++ codes "a") ≡ BadLine 3
twice =
    let b = ascii (codes "b") refl in
    let c = ascii (codes "c") refl in
    rw (b, c) refl
