-- The names of a program's own definitions, a line for each.
use Rattle.std.specs.Prelude.{ℕ, ◌+◌, Bool, true, false, List, [], ◌∷◌, ◌++◌, Option, Some, None, codes, if◌then◌else◌}
use Rattle.std.specs.Fmt.{decimal}
use Rattle.hex.specs.Hex.{encode_lower}
use Rattle.ac_types.specs.Types.{Bytes}
use Rattle.ac_terms.specs.Defs.{Environment, Def, AModule, AnImport, AMark, Own', Shelf, Arrived, Entry}
use Rattle.ac_text.specs.Literals.{literal}

-- the entries that aren't of the shelf, and that haven't arrived
abbrev pub is_own_entry : Entry → Bool
is_own_entry e = elim e.seen [ Own' ↦ true | Shelf uri ↦ false | Arrived ↦ false ]

-- the 64 digits of the name that an entry keeps
abbrev pub digits_of : Option Bytes → Bytes
digits_of None = []
digits_of (Some n) = encode_lower n

-- a module or an import is shown by its external name and its digits, a mark by its name as a string literal
abbrev pub def_shown : Def → Option Bytes → Bytes
def_shown (AModule m) name = codes "module " ++ m.name ++ codes " " ++ digits_of name
def_shown (AnImport i) name = codes "import " ++ i.name ++ codes " " ++ digits_of name
def_shown (AMark t) name = codes "mark " ++ literal t

abbrev pub name_line : ℕ → Entry → Bytes
name_line number e = decimal number ++ codes " " ++ def_shown e.def e.name ++ codes "\n"

-- the lines of the own entries among some, which are numbered from k on
abbrev pub names_from : ℕ → List Entry → Bytes
names_from k [] = []
names_from k (e ∷ es) =
    if is_own_entry e then name_line k e ++ names_from (k + 1) es else names_from k es

abbrev pub names_shown : Environment → Bytes
names_shown E = names_from 0 E
