-- How pieces of spellings are read: what they spell, and what is left.
use Rattle.std.specs.Prelude.{ℕ, ℤ, zero, suc, Bool, true, false, List, [], ◌∷◌, Option, Some, None, option_and_then, option_map, slice_get}
use Rattle.std.specs.Int.{w16, w32, w64, from_be_bytes, cast_signed}
use Rattle.ac_types.specs.Types.{Bytes}
use Rattle.ac_types.specs.Sigs.{Atom, Number, MyName, Range, One, Between, UpTo, From, Constraint, Ranges, Exact, Resolve, StaticLink, HereAlready, Uri}
use Rattle.ac_terms.specs.Terms.{Home, Main, In, Pattern, Expr, Arms, no_arms, arm}
use Rattle.ac_terms.specs.PrimitiveTypes.{Rule}
use Rattle.ac_terms.specs.Spelling.{type_count}

-- what is read, and the bytes that are left
abbrev pub ReadsPart : Type 0 → Type 0
ReadsPart A = Bytes → Option (A × Bytes)

-- nothing is read; something else is made of what is read; one thing is read after another
abbrev pub give : {A : Type 0} → A → ReadsPart A
give a bs = Some (a, bs)

abbrev pub one : {A B : Type 0} → (A → B) → ReadsPart A → ReadsPart B
one c f bs = option_map (λ p. (c p.0, p.1)) (f bs)

abbrev pub then_read : {A B : Type 0} → ReadsPart A → (A → ReadsPart B) → ReadsPart B
then_read f g bs = option_and_then (λ p. g p.0 p.1) (f bs)

abbrev pub two_parts_read : {A B C : Type 0} → (A → B → C) → ReadsPart A → ReadsPart B → ReadsPart C
two_parts_read c f g = then_read f (λ a. one (c a) g)

abbrev pub three : {A B C D : Type 0} → (A → B → C → D) → ReadsPart A → ReadsPart B → ReadsPart C → ReadsPart D
three c f g h = then_read f (λ a. two_parts_read (c a) g h)

abbrev pub pair : {A B : Type 0} → ReadsPart A → ReadsPart B → ReadsPart (A × B)
pair f g = two_parts_read (λ a b. (a, b)) f g

-- that many bytes
abbrev pub bytes_read : ℕ → ReadsPart Bytes
bytes_read zero bs = Some ([], bs)
bytes_read (suc k) [] = None
bytes_read (suc k) (b ∷ bs) = option_map (λ p. (b ∷ p.0, p.1)) (bytes_read k bs)

-- so many items, into a list of their own kind
abbrev pub times : {A L : Type 0} → L → (A → L → L) → ReadsPart A → ℕ → ReadsPart L
times nil cons f zero = give nil
times nil cons f (suc n) = then_read f (λ a. one (cons a) (times nil cons f n))

abbrev pub read_list : {A : Type 0} → ReadsPart ℕ → ReadsPart A → ReadsPart (List A)
read_list count f = then_read count (times [] (λ x xs. x ∷ xs) f)

-- a tag says how to go on
abbrev pub tagged : {A : Type 0} → List (ReadsPart A) → ReadsPart A
tagged table [] = None
tagged table (tag ∷ bs) = option_and_then (λ (g : ReadsPart _). g bs) (slice_get table tag)

abbrev pub nothing : {A : Type 0} → ReadsPart A
nothing bs = None

-- numbers, truth values, words, strings and names
abbrev pub read_byte : ReadsPart ℕ
read_byte [] = None
read_byte (b ∷ bs) = Some (b, bs)

abbrev pub read_two : ReadsPart ℕ
read_two = one (from_be_bytes w16) (bytes_read 2)

abbrev pub read_four : ReadsPart ℕ
read_four = one (from_be_bytes w32) (bytes_read 4)

abbrev pub read_eight : ReadsPart ℤ
read_eight = one (λ (bs : Bytes). cast_signed w64 (from_be_bytes w64 bs)) (bytes_read 8)

abbrev pub bool_of : ℕ → Bool
bool_of zero = false
bool_of (suc n) = true

abbrev pub read_truth : ReadsPart Bool
read_truth = one bool_of read_byte

abbrev pub read_word : ReadsPart Bytes
read_word = then_read read_byte bytes_read

abbrev pub read_str : ReadsPart Bytes
read_str = then_read read_four bytes_read

abbrev pub read_name : ReadsPart Bytes
read_name = bytes_read 32

-- an exception's number says whether a text follows
abbrev pub read_with_text : {A : Type 0} → Bool → A → ReadsPart A → ReadsPart A
read_with_text true bare f = f
read_with_text false bare f = give bare

-- a home is a number, 0 for the main program
abbrev pub home_number : ℕ → Home
home_number zero = Main
home_number (suc k) = In k

abbrev pub read_home : ReadsPart Home
read_home = one home_number read_two

-- how many arguments a primitive takes
abbrev pub argument_count : List (List Rule) → ℕ → ℕ
argument_count [] k = 0
argument_count ([] ∷ rest) k = 0
argument_count ((r ∷ rs) ∷ rest) zero = type_count r.0
argument_count ((r ∷ rs) ∷ rest) (suc k) = argument_count rest k

abbrev pub many_arms : ReadsPart Pattern → ReadsPart Expr → ℕ → ReadsPart Arms
many_arms p f zero = give no_arms
many_arms p f (suc n) = three arm p f (many_arms p f n)

-- versions, constraints and resolvespecs
abbrev pub read_atom : ReadsPart Atom
read_atom bs = tagged (nothing ∷ one Number read_four ∷ give MyName ∷ []) bs

abbrev pub read_range : ReadsPart Range
read_range bs = tagged (nothing ∷ one One read_four ∷ two_parts_read Between read_four read_four ∷ one UpTo read_four ∷ one From read_four ∷ []) bs

abbrev pub read_constraint : ReadsPart Constraint
read_constraint bs = tagged (nothing ∷ two_parts_read Ranges (read_list read_byte read_range) read_truth ∷ one Exact read_name ∷ []) bs

abbrev pub read_resolve : ReadsPart Resolve
read_resolve bs = tagged (nothing ∷ give StaticLink ∷ give HereAlready ∷ one Uri read_str ∷ []) bs
