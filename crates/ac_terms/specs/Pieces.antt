-- The pieces of spellings that have no type in them: numbers, words, strings, lists, homes, versions, constraints and resolvespecs.
use Rattle.std.specs.Prelude.{ℕ, suc, ℤ, ◌+◌, Bool, true, false, List, [], ◌∷◌, ◌++◌, length, flat_map, Option, Some, None}
use Rattle.std.specs.Int.{w8, w16, w32, w64, to_be_bytes, cast_unsigned}
use Rattle.ac_types.specs.Types.{Bytes}
use Rattle.ac_types.specs.Sigs.{Atom, Number, MyName, Range, One, Between, UpTo, From, Constraint, Ranges, Exact, Resolve, StaticLink, HereAlready, Uri}
use Rattle.ac_terms.specs.Terms.{Home, Main, In, Patterns, no_patterns, pattern', Exprs, no_exprs, expr, Arms, no_arms, arm, PValues, no_pvalues, pvalue}
use Rattle.ac_terms.specs.Tags as tag

-- numbers are big-endian; a word has a byte for its length, a string four. A count is written by the last digits that its width holds; within the bounds that is the count
abbrev pub one_written : ℕ → Bytes
one_written n = to_be_bytes w8 n

abbrev pub two_written : ℕ → Bytes
two_written n = to_be_bytes w16 n

abbrev pub four_written : ℕ → Bytes
four_written n = to_be_bytes w32 n

abbrev pub eight_written : ℤ → Bytes
eight_written z = to_be_bytes w64 (cast_unsigned w64 z)

abbrev pub truth : Bool → Bytes
truth true = 1 ∷ []
truth false = 0 ∷ []

abbrev pub word : Bytes → Bytes
word w = length w ∷ w

abbrev pub str : Bytes → Bytes
str s = four_written (length s) ++ s

-- a count and the items
abbrev pub listed : {A : Type 0} → (ℕ → Bytes) → (A → Bytes) → List A → Bytes
listed count item xs = count (length xs) ++ flat_map item xs

-- what is a byte already
abbrev pub byte : ℕ → Bytes
byte n = n ∷ []

abbrev pub home_bytes : Home → Bytes
home_bytes Main = two_written 0
home_bytes (In k) = two_written (k + 1)

abbrev pub exn_bytes : ℕ → Option Bytes → Bytes
exn_bytes k None = k ∷ []
exn_bytes k (Some s) = k ∷ str s

-- how many stand in a list
abbrev pub pattern_count : Patterns → ℕ
pattern_count no_patterns = 0
pattern_count (pattern' p ps) = suc (pattern_count ps)

abbrev pub term_count : Exprs → ℕ
term_count no_exprs = 0
term_count (expr e es) = suc (term_count es)

abbrev pub arm_count : Arms → ℕ
arm_count no_arms = 0
arm_count (arm p e rest) = suc (arm_count rest)

abbrev pub value_count : PValues → ℕ
value_count no_pvalues = 0
value_count (pvalue v vs) = suc (value_count vs)

abbrev pub atom_bytes : Atom → Bytes
atom_bytes (Number n) = tag.atom_number ∷ four_written n
atom_bytes MyName = tag.atom_my_name ∷ []

abbrev pub range_bytes : Range → Bytes
range_bytes (One n) = tag.range_one ∷ four_written n
range_bytes (Between n m) = tag.range_between ∷ four_written n ++ four_written m
range_bytes (UpTo n) = tag.range_up_to ∷ four_written n
range_bytes (From n) = tag.range_from ∷ four_written n

abbrev pub constraint_bytes : Constraint → Bytes
constraint_bytes (Ranges rs star) = tag.constraint_ranges ∷ listed one_written range_bytes rs ++ truth star
constraint_bytes (Exact n) = tag.constraint_exact ∷ n

abbrev pub resolve_bytes : Resolve → Bytes
resolve_bytes StaticLink = tag.resolve_static_link ∷ []
resolve_bytes HereAlready = tag.resolve_here_already ∷ []
resolve_bytes (Uri u) = tag.resolve_uri ∷ str u
