-- Why a value isn't marshalled, and the string that it is marshalled to, where its packet has a table of types.
use Rattle.std.specs.Prelude.{ℕ, ◌||◌, not, nat_lt, List, [], ◌∷◌, ◌++◌, length, Option, Some, None}
use Rattle.std.specs.List.{list_all}
use Rattle.ac_types.specs.Partial.{given, first_some}
use Rattle.ac_types.specs.Limits.{longest_tabled, deepest_nesting}
use Rattle.ac_types.specs.Types.{Bytes, Typ}
use Rattle.ac_terms.specs.Terms.{PValue}
use Rattle.ac_terms.specs.Defs.{Environment, Packet}
use Rattle.ac_terms.specs.Spelling.{two_written, four_written}
use Rattle.ac_terms.specs.Bounds.{nests_little}
use Rattle.ac_terms.specs.HeadsBy.{Head, type_heads, value_heads}
use Rattle.ac_terms.specs.Tables.{type_places, in_full, tabled_bytes}
use Rattle.ac_rules.specs.Needed.{mark_at, packet_for}
use Rattle.ac_rules.specs.Faults.{Fault, NoMark, Depth, Size, first_fault, Marshalled, NoString, AString}

-- as the parts are visited each type counts as the four bytes of a number, which isn't known yet
abbrev pub as_number : Typ → Bytes
as_number T = four_written 0

-- the parts of a packet's type and value, in the order in which they are written
abbrev pub numbered_heads : Typ → PValue → List Head
numbered_heads T v = type_heads as_number T ++ value_heads as_number two_written 1 v

-- after the last part: a definition that nests too far; then the size of the whole, or of the types added up over their places
abbrev pub whole_tabled_fault : Packet → Option Fault
whole_tabled_fault p =
    first_some (given (not (list_all nests_little p.defs)) (Some Depth) ∷ given (nat_lt longest_tabled (length (tabled_bytes p)) || nat_lt longest_tabled (in_full (type_places p))) (Some Size) ∷ [])

-- the first of all faults of a packed value v at type T as cut by the mark of that name, over E; else the string that spells the packet with a table
abbrev pub whole_tabled : Packet → Option Fault → Marshalled
whole_tabled p None = AString (tabled_bytes p)
whole_tabled p (Some f) = NoString f

abbrev pub behind_tabled : Environment → ℕ → Typ → PValue → Option Fault → Marshalled
behind_tabled E m T v (Some f) = NoString f
behind_tabled E m T v None = let p : Packet = packet_for E m T v in whole_tabled p (whole_tabled_fault p)

abbrev pub cut_at_tabled : Environment → Typ → PValue → Option ℕ → Marshalled
cut_at_tabled E T v None = NoString NoMark
cut_at_tabled E T v (Some m) = behind_tabled E m T v (first_fault deepest_nesting longest_tabled 0 (numbered_heads T v))

abbrev pub marshalled_tabled : Environment → Bytes → Typ → PValue → Marshalled
marshalled_tabled E mark T v = cut_at_tabled E T v (mark_at E mark)
