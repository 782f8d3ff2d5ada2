-- How versions and constraints are printed: the spellings of their tokens, joined.
use Rattle.std.specs.Prelude.{Bool, true, false, List, [], ◌∷◌, ◌++◌, codes}
use Rattle.std.specs.Fmt.{decimal}
use Rattle.hex.specs.Hex.{encode_lower}
use Rattle.ac_types.specs.Types.{Bytes}
use Rattle.ac_types.specs.Sigs.{Atom, Number as Numbered, MyName as Own, Range, One, Between, UpTo, From, Constraint, Ranges, Exact}
use Rattle.ac_version.specs.declared.read.VToken.{VToken}
use Rattle.ac_version.specs.declared.read.VToken.TheVariants.{Number, Dot, Minus, Star, MyName}

-- how a token is spelled
abbrev pub token_text : VToken → Bytes
token_text (Number n) = decimal n
token_text Dot = codes "."
token_text Minus = codes "-"
token_text Star = codes "*"
token_text MyName = codes "myname"

abbrev pub tokens_joined : List VToken → Bytes
tokens_joined [] = []
tokens_joined (t ∷ ts) = token_text t ++ tokens_joined ts

-- a dot stands in front of all but the first
abbrev pub dot_before : Bool → List VToken → List VToken
dot_before true ts = ts
dot_before false ts = Dot ∷ ts

-- the token that is an atom
abbrev pub atom_token : Atom → VToken
atom_token (Numbered n) = Number n
atom_token Own = MyName

-- the tokens of atoms that are the first, or stand behind others
abbrev pub atoms_tokens : Bool → List Atom → List VToken
atoms_tokens first [] = []
atoms_tokens first (a ∷ rest) = dot_before first (atom_token a ∷ atoms_tokens false rest)

-- the tokens of a version
abbrev pub version_tokens : List Atom → List VToken
version_tokens version = atoms_tokens true version

-- the tokens that are a range
abbrev pub range_tokens : Range → List VToken
range_tokens (One n) = Number n ∷ []
range_tokens (Between n m) = Number n ∷ Minus ∷ Number m ∷ []
range_tokens (UpTo m) = Minus ∷ Number m ∷ []
range_tokens (From n) = Number n ∷ Minus ∷ []

-- the tokens of ranges that are the first, or stand behind others, and of a star behind them
abbrev pub ranges_tokens : Bool → List Range → Bool → List VToken
ranges_tokens first [] true = dot_before first (Star ∷ [])
ranges_tokens first [] false = []
ranges_tokens first (r ∷ rest) star = dot_before first (range_tokens r ++ ranges_tokens false rest star)

-- the tokens of a constraint by ranges
abbrev pub constraint_tokens : List Range → Bool → List VToken
constraint_tokens ranges star = ranges_tokens true ranges star

-- a constraint as it is printed; by exact name with the name's 64 digits to the base 16
abbrev pub constraint_printed : Constraint → Bytes
constraint_printed (Ranges ranges star) = tokens_joined (constraint_tokens ranges star)
constraint_printed (Exact n) = codes "name = " ++ encode_lower n
