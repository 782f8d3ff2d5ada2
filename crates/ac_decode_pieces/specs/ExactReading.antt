-- How pieces are read exactly: only a spelling within the bounds is taken, so bytes are read where they spell and nowhere else.
use Rattle.std.specs.Prelude.{ℕ, ℤ, ◌==◌, Bool, true, ◌&&◌, ◌||◌, ◌++◌, nat_le, slice_index, List, [], ◌∷◌, length, Some, option_and_then}
use Rattle.ac_types.specs.Limits.{most_version_atoms, longest_uri, most_resolves}
use Rattle.ac_types.specs.Partial.{given}
use Rattle.ac_types.specs.Types.{Bytes, same_bytes}
use Rattle.ac_types.specs.Words.{is_word, is_between}
use Rattle.ac_types.specs.Sigs.{Atom, Number, MyName, Range, One, Between, UpTo, From, Constraint, Ranges, Exact, Resolve, StaticLink, HereAlready, Uri}
use Rattle.ac_terms.specs.Spelling.{two_written, four_written, eight_written, truth, word, str}
use Rattle.ac_terms.specs.Bounds.{is_name, is_two, is_four, is_integer, is_width}
use Rattle.ac_terms.specs.PacketReading.{ReadsPart, give, one, two_parts_read, pair, read_list, tagged, nothing, read_byte, read_two, read_four, read_eight, read_truth, read_word, read_str, read_name}

-- what is read, where it passes a test
abbrev pub passing : {A : Type 0} → (A → Bool) → ReadsPart A → ReadsPart A
passing test f bs = option_and_then (λ p. given (test p.0) (Some p)) (f bs)

-- what is read, where it passes a test and the bytes are its spelling
abbrev pub exactly : {A : Type 0} → (A → Bool) → (A → Bytes) → ReadsPart A → ReadsPart A
exactly test spell f bs = option_and_then (λ p. given (test p.0 && same_bytes bs (spell p.0 ++ p.1)) (Some p)) (f bs)

-- numbers, truth values, names, words and strings
unfoldable pub exact_two : ReadsPart ℕ
exact_two = exactly is_two two_written read_two

unfoldable pub exact_four : ReadsPart ℕ
exact_four = exactly is_four four_written read_four

unfoldable pub exact_eight : ReadsPart ℤ
exact_eight = exactly is_integer eight_written read_eight

unfoldable pub exact_truth : ReadsPart Bool
exact_truth = exactly (λ b. true) truth read_truth

unfoldable pub exact_name : ReadsPart Bytes
exact_name = exactly is_name (λ n. n) read_name

unfoldable pub exact_word : ReadsPart Bytes
exact_word = exactly is_word word read_word

abbrev pub begins_low : Bytes → Bool
begins_low w = is_between 97 122 (slice_index w 0) || slice_index w 0 == 95

abbrev pub begins_high : Bytes → Bool
begins_high w = is_between 65 90 (slice_index w 0)

unfoldable pub exact_lower : ReadsPart Bytes
exact_lower = passing begins_low exact_word

unfoldable pub exact_upper : ReadsPart Bytes
exact_upper = passing begins_high exact_word

-- strings of at most so many bytes
unfoldable pub exact_text : ℕ → ReadsPart Bytes
exact_text most = exactly (λ s. nat_le (length s) most) str read_str

-- counts: of a tuple's parts, and of at least and at most so many
unfoldable pub exact_width : ReadsPart ℕ
exact_width = passing is_width read_byte

abbrev pub in_limits : ℕ → ℕ → ℕ → Bool
in_limits least most n = nat_le least n && nat_le n most

unfoldable pub exact_count : ℕ → ℕ → ReadsPart ℕ
exact_count least most = passing (in_limits least most) read_byte

unfoldable pub exact_long_count : ℕ → ℕ → ReadsPart ℕ
exact_long_count least most = passing (in_limits least most) exact_two

-- versions, constraints and resolvespecs
abbrev pub atom_table : List (ReadsPart Atom)
atom_table = nothing ∷ one Number exact_four ∷ give MyName ∷ []

unfoldable pub exact_atom : ReadsPart Atom
exact_atom bs = tagged atom_table bs

unfoldable pub exact_version : ReadsPart (List Atom)
exact_version = read_list (exact_count 1 most_version_atoms) exact_atom

abbrev pub range_table : List (ReadsPart Range)
range_table = nothing ∷ one One exact_four ∷ two_parts_read Between exact_four exact_four ∷ one UpTo exact_four ∷ one From exact_four ∷ []

unfoldable pub exact_range : ReadsPart Range
exact_range bs = tagged range_table bs

-- without ranges there is the star
abbrev pub has_ranges : List Range × Bool → Bool
has_ranges p = p.1 || nat_le 1 (length p.0)

abbrev pub a_ranges : List Range × Bool → Constraint
a_ranges p = Ranges p.0 p.1

unfoldable pub exact_ranges : ReadsPart (List Range × Bool)
exact_ranges = passing has_ranges (pair (read_list (exact_count 0 most_version_atoms) exact_range) exact_truth)

abbrev pub constraint_table : List (ReadsPart Constraint)
constraint_table = nothing ∷ one a_ranges exact_ranges ∷ one Exact exact_name ∷ []

unfoldable pub exact_constraint : ReadsPart Constraint
exact_constraint bs = tagged constraint_table bs

abbrev pub resolve_table : List (ReadsPart Resolve)
resolve_table = nothing ∷ give StaticLink ∷ give HereAlready ∷ one Uri (exact_text longest_uri) ∷ []

unfoldable pub exact_resolve : ReadsPart Resolve
exact_resolve bs = tagged resolve_table bs

unfoldable pub exact_resolves : ReadsPart (List Resolve)
exact_resolves = read_list (exact_count 1 most_resolves) exact_resolve
