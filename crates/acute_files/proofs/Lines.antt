-- Lines of a shelf's list, one behind the other.
use Rattle.std.proofs.Common.{◌≡◌, ◌<◌, ◌≤◌, ◌+◌, ◌&&◌, ℕ, suc, Bool, true, false, not, List, [], ◌∷◌, ◌++◌, length, map, take, drop, Option, Some, None, refl, sym, subst, ◌∙◌, ap, ap₂, arith, append_assoc, append-nil, length-append, cond}
use Rattle.std.specs.Prelude.{nat_le, nat_lt, ◌||◌, is_some}
use Rattle.std.specs.List.{position, position_or_len, before_first, after_first, concat, list_all, list_any}
use Rattle.std.proofs.lemmas.Bool.{ltb-false, lt-ltb, lt-leb, le-leb}
use Rattle.std.specs.Str.{IsUtf8, is_utf8}
use Rattle.std.proofs.lemmas.Str.{IsUtf8-from_is_utf8}
use mathlib.Core.Bool.{true≢false}
use Rattle.ac_types.specs.Types.{Bytes, same_bytes}
use Rattle.ac_types.proofs.FirstLaws.{none≢some, some_eq}
use Rattle.ac_types.proofs.Same.{both_true, and_true, bytes_eq, bytes_refl}
use Rattle.ac_rules.specs.Modules.{are_distinct}
use Rattle.ac_types.specs.Limits.{is_uri}
use Rattle.acute_files.specs.declared.list.ShelfLine as code_line
use Rattle.acute_files.specs.ShelfLists.{Listed, is_space, is_listed_file, pair_of, listed_of, is_feed, byte_in_front, lines, line_has, without_feed, has_form, had_of, entry_of_line, entries_of_lines, listed_uris, are_good}
use Rattle.acute_files.specs.inner.Behind.{are_few, fits_behind}

-- where the first such place is
pub place_is : {A : Type 0} (p : A → Bool) (xs : List A) (i : ℕ) → position p xs ≡ Some i → i ≡ position_or_len p xs
place_is {A} p xs i h = go (nat_lt (position_or_len p xs) (length xs)) h where
  go : (b : Bool) → cond b (Some (position_or_len p xs)) None ≡ Some i → i ≡ position_or_len p xs
  go true e = sym (some_eq e)
  go false e = absurd (none≢some e)

pub place_within : {A : Type 0} (p : A → Bool) (xs : List A) → position_or_len p xs ≤ length xs
place_within p [] = omega arith
place_within {A} p (x ∷ xs) = go (p x) (place_within p xs) where
  go : (b : Bool) → position_or_len p xs ≤ length xs → cond (not b) (1 + position_or_len p xs) 0 ≤ suc (length xs)
  go true h = omega arith
  go false h = omega (arith, h)

pub no_place : {A : Type 0} (p : A → Bool) (xs : List A) → position p xs ≡ None → length xs ≡ position_or_len p xs
no_place {A} p xs h = go (nat_lt (position_or_len p xs) (length xs)) refl h where
  go : (b : Bool) → nat_lt (position_or_len p xs) (length xs) ≡ b → cond b (Some (position_or_len p xs)) None ≡ None → length xs ≡ position_or_len p xs
  go true l e = absurd (none≢some (sym e))
  go false l e = omega (arith, place_within p xs, ltb-false (position_or_len p xs) (length xs) l)

-- the first line ends with the first feed
pub feed_first : (text : Bytes) (n m : ℕ) → n ≡ position_or_len is_feed text → n < length text → m ≡ suc n → lines text ≡ take m text ∷ lines (drop m text)
feed_first [] n m is lt next = absurd (omega (arith, lt))
feed_first (b ∷ bs) n m is lt next = go (is_feed b) (λ h. feed_first bs (position_or_len is_feed bs) (suc (position_or_len is_feed bs)) refl h refl) is lt where
  go : (t : Bool) → (position_or_len is_feed bs < length bs → lines bs ≡ take (suc (position_or_len is_feed bs)) bs ∷ lines (drop (suc (position_or_len is_feed bs)) bs)) → n ≡ cond (not t) (1 + position_or_len is_feed bs) 0 → n < suc (length bs) → cond t ((b ∷ []) ∷ lines bs) (byte_in_front b (lines bs)) ≡ take m (b ∷ bs) ∷ lines (drop m (b ∷ bs))
  go true h e l = let one : m ≡ 1 = omega (arith, e, next) in rw one refl
  go false h e l =
      let k : ℕ = position_or_len is_feed bs in
      let inner = h (omega (arith, e, l)) in
      let more : m ≡ suc (suc k) = omega (arith, e, next) in
      rw (more, inner) refl

-- a text without a feed is one line
abbrev all_in_one : Bytes → List Bytes
all_in_one [] = []
all_in_one (b ∷ bs) = (b ∷ bs) ∷ []

one_in_front : (b : ℕ) (bs : Bytes) → byte_in_front b (all_in_one bs) ≡ (b ∷ bs) ∷ []
one_in_front b [] = refl
one_in_front b (c ∷ bs) = refl

no_feed_in : (text : Bytes) → length text ≡ position_or_len is_feed text → lines text ≡ all_in_one text
no_feed_in [] is = refl
no_feed_in (b ∷ bs) is = go (is_feed b) (no_feed_in bs) is where
  go : (t : Bool) → (length bs ≡ position_or_len is_feed bs → lines bs ≡ all_in_one bs) → suc (length bs) ≡ cond (not t) (1 + position_or_len is_feed bs) 0 → cond t ((b ∷ []) ∷ lines bs) (byte_in_front b (lines bs)) ≡ (b ∷ bs) ∷ []
  go true h e = absurd (omega (arith, e))
  go false h e = ap (byte_in_front b) (h (omega (arith, e))) ∙ one_in_front b bs

pub no_feed : (text : Bytes) → length text ≡ position_or_len is_feed text → 0 < length text → lines text ≡ text ∷ []
no_feed [] is lt = absurd (omega (arith, lt))
no_feed (b ∷ bs) is lt = no_feed_in (b ∷ bs) is

-- lists with one more at their end
all_more : {A : Type 0} (p : A → Bool) (xs : List A) (x : A) → list_all p xs ≡ true → list_all p (xs ++ x ∷ []) ≡ p x
all_more {A} p [] x h = go (p x) where
  go : (b : Bool) → (b && true) ≡ b
  go true = refl
  go false = refl
all_more {A} p (y ∷ ys) x h =
    let parts = both_true (p y) (list_all p ys) h in
    rw parts.0 (all_more p ys x parts.1)

pub concat_more : (ls : List Bytes) (l : Bytes) → length (concat (ls ++ l ∷ [])) ≡ length (concat ls) + length l
concat_more [] l = omega (arith, ap length (append-nil l))
concat_more (m ∷ ls) l = length-append m (concat (ls ++ l ∷ [])) ∙ omega (arith, concat_more ls l, length-append m (concat ls))

pub entries_more : (ls : List Bytes) (l : Bytes) → entries_of_lines (ls ++ l ∷ []) ≡ entries_of_lines ls ++ entry_of_line l
entries_more [] l = append-nil (entry_of_line l)
entries_more (m ∷ ls) l = ap (λ (xs : List Listed). entry_of_line m ++ xs) (entries_more ls l) ∙ sym (append_assoc (entry_of_line m) (entries_of_lines ls) (entry_of_line l))

same_both : (a b : Bytes) → same_bytes a b ≡ same_bytes b a
same_both a b = go (same_bytes a b) (same_bytes b a) refl refl where
  go : (s t : Bool) → same_bytes a b ≡ s → same_bytes b a ≡ t → s ≡ t
  go true true e f = refl
  go false false e f = refl
  go true false e f = absurd (true≢false (sym (subst (λ (x : Bytes). same_bytes b x ≡ true) (sym (bytes_eq a b e)) (bytes_refl b)) ∙ f))
  go false true e f = absurd (true≢false (sym (subst (λ (x : Bytes). same_bytes a x ≡ true) (sym (bytes_eq b a f)) (bytes_refl a)) ∙ e))

-- names with one more at their end are distinct where it is none of them
among_more : (x u : Bytes) (us : List Bytes) → list_any (same_bytes x) (us ++ u ∷ []) ≡ (list_any (same_bytes x) us || same_bytes u x)
among_more x u [] = go (same_bytes x u) (same_bytes u x) (same_both x u) where
  go : (s t : Bool) → s ≡ t → (s || false) ≡ t
  go true t e = e
  go false t e = e
among_more x u (y ∷ us) = ap (λ (b : Bool). same_bytes x y || b) (among_more x u us) ∙ go (same_bytes x y) where
  go : (b : Bool) → (b || (list_any (same_bytes x) us || same_bytes u x)) ≡ ((b || list_any (same_bytes x) us) || same_bytes u x)
  go true = refl
  go false = refl

pub distinct_more : (us : List Bytes) (u : Bytes) → are_distinct (us ++ u ∷ []) ≡ (are_distinct us && not (list_any (same_bytes u) us))
distinct_more [] u = refl
distinct_more (x ∷ us) u =
    ap₂ (λ (a b : Bool). not a && b) (among_more x u us) (distinct_more us u)
    ∙ go (list_any (same_bytes x) us) (same_bytes u x) (are_distinct us) (list_any (same_bytes u) us)
  where
    go : (a b c d : Bool) → (not (a || b) && (c && not d)) ≡ ((not a && c) && not (b || d))
    go true b c d = refl
    go false true true d = refl
    go false true false d = refl
    go false false c d = refl

-- a line behind good lines
pub good_more : (ls : List Bytes) (l : Bytes) → are_good ls ≡ true
    → are_good (ls ++ l ∷ []) ≡ (nat_le (length (concat ls) + length l) 65536 && fits_behind (entries_of_lines ls) (line_has (without_feed l)))
good_more ls l good =
    rw (all_more has_form ls l (both_true (list_all has_form ls) _ good).0, concat_more ls l, entries_more ls l)
    (go (line_has (without_feed l)) (nat_le (length (concat ls) + length l) 65536))
  where
    go : (o : Option (List Listed)) (n : Bool) → (is_some o && (n && are_few (entries_of_lines ls ++ had_of o))) ≡ (n && fits_behind (entries_of_lines ls) o)
    go None true = refl
    go None false = refl
    go (Some ys) n = refl

-- each entry has a URI that is one
all_front : {A : Type 0} (p : A → Bool) (xs ys : List A) → list_all p xs ≡ true → list_all p ys ≡ true → list_all p (xs ++ ys) ≡ true
all_front p [] ys h k = k
all_front p (x ∷ xs) ys h k =
    let parts = both_true (p x) (list_all p xs) h in
    and_true parts.0 (all_front p xs ys parts.1 k)

pair_uri : (uri file : Bytes) → list_all (λ (x : Listed). is_uri x.uri) (had_of (pair_of uri file)) ≡ true
pair_uri uri file = go (is_uri uri) (is_listed_file file) refl where
  go : (a b : Bool) → is_uri uri ≡ a → list_all (λ (x : Listed). is_uri x.uri) (had_of (cond (a && b) (Some (record { uri = uri; file = file } ∷ [])) None)) ≡ true
  go true true e = and_true e refl
  go true false e = refl
  go false b e = refl

line_uri : (line : Bytes) → list_all (λ (x : Listed). is_uri x.uri) (had_of (line_has line)) ≡ true
line_uri [] = refl
line_uri (b ∷ bs) = pair_uri (before_first is_space (b ∷ bs)) (after_first is_space (b ∷ bs))

pub all_uris : (ls : List Bytes) → list_all (λ (x : Listed). is_uri x.uri) (entries_of_lines ls) ≡ true
all_uris [] = refl
all_uris (l ∷ ls) = all_front (λ (x : Listed). is_uri x.uri) (entry_of_line l) (entries_of_lines ls) (line_uri (without_feed l)) (all_uris ls)

-- an entry of the code has a URI where one of those of the definition has it
pub any_listed : (u : Bytes) (xs : List code_line.ShelfLine) → list_any (λ (x : code_line.ShelfLine). same_bytes u x.uri.0) xs ≡ list_any (same_bytes u) (listed_uris (map listed_of xs))
any_listed u [] = refl
any_listed u (x ∷ xs) = ap (λ (b : Bool). same_bytes u x.uri.0 || b) (any_listed u xs)

-- FILE by its parts
pub file_is : (file : Bytes) → 0 < length file → false ≡ list_any is_space file → is_utf8 file ≡ true → is_listed_file file ≡ true
file_is file some none text = rw (lt-ltb 0 (length file) some, sym none, text) refl

pub no_file : (file : Bytes) → (IsUtf8 file → ⊥) → is_listed_file file ≡ false
no_file file not_text = go (is_utf8 file) refl (nat_lt 0 (length file)) (list_any is_space file) where
  go : (b : Bool) → is_utf8 file ≡ b → (c d : Bool) → (c && (not d && is_utf8 file)) ≡ false
  go true e c d = absurd (not_text (IsUtf8-from_is_utf8 file e))
  go false e true true = refl
  go false e true false = e
  go false e false d = refl

-- one entry more
uris_more : (xs : List Listed) (y : Listed) → listed_uris (xs ++ y ∷ []) ≡ listed_uris xs ++ y.uri ∷ []
uris_more [] y = refl
uris_more (x ∷ xs) y = ap (λ (us : List Bytes). x.uri ∷ us) (uris_more xs y)

pub few_more : (xs : List Listed) (y : Listed) → are_few xs ≡ true → are_few (xs ++ y ∷ []) ≡ (nat_le (length xs + 1) 256 && not (list_any (same_bytes y.uri) (listed_uris xs)))
few_more xs y few =
    let parts = both_true (nat_le (length xs) 256) (are_distinct (listed_uris xs)) few in
    rw (length-append xs (y ∷ []), uris_more xs y, distinct_more (listed_uris xs) y.uri, parts.1) refl

pub too_many : (xs : List Listed) (y : Listed) → are_few xs ≡ true → 256 ≤ length xs → false ≡ are_few (xs ++ y ∷ [])
too_many xs y few most = sym (few_more xs y few ∙ ap (λ (b : Bool). b && not (list_any (same_bytes y.uri) (listed_uris xs))) (lt-leb (length xs + 1) 256 (omega (arith, most))))

pub twice : (xs : List Listed) (y : Listed) → are_few xs ≡ true → list_any (same_bytes y.uri) (listed_uris xs) ≡ true → false ≡ are_few (xs ++ y ∷ [])
twice xs y few there = sym (few_more xs y few ∙ ap (λ (b : Bool). nat_le (length xs + 1) 256 && not b) there ∙ go (nat_le (length xs + 1) 256)) where
  go : (b : Bool) → (b && false) ≡ false
  go true = refl
  go false = refl

pub one_more : (xs : List Listed) (y : Listed) → are_few xs ≡ true → length xs < 256 → list_any (same_bytes y.uri) (listed_uris xs) ≡ false → true ≡ are_few (xs ++ y ∷ [])
one_more xs y few room none = sym (few_more xs y few ∙ rw (le-leb (length xs + 1) 256 (omega (arith, room)), none) refl)

pub map_length : (xs : List code_line.ShelfLine) → length (map listed_of xs) ≡ length xs
map_length [] = refl
map_length (x ∷ xs) = ap suc (map_length xs)
