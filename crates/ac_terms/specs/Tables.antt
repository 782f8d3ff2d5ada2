-- Packets of version 3: each type stands once, in a table in front of all else, and everywhere else its number in the table.
use Rattle.std.specs.Prelude.{◌≡◌, ℕ, suc, ◌+◌, ◌≤◌, nat_lt, nat_eq, ◌&&◌, not, Bool, true, false, List, [], ◌∷◌, ◌++◌, length, map, flat_map, slice_get, Option, Some, None, IsTrue}
use Rattle.std.specs.List.{list_any}
use Rattle.ac_types.specs.Limits.{longest_tabled}
use Rattle.ac_types.specs.Types.{Bytes, Typ, same}
use Rattle.ac_terms.specs.Defs.{Packet}
use Rattle.ac_terms.specs.Parts.{OfType, part_types, def_parts, value_parts}
use Rattle.ac_terms.specs.Spelling.{four_written, listed, type_bytes}
use Rattle.ac_terms.specs.SpelledBy.{body_bytes}
use Rattle.ac_terms.specs.Bounds.{Spells, fits_packet}
use Rattle.ac_terms.specs.Tags as tag

-- the types in all places of a packet, in the order of its bytes: those of the definitions, the packet's own, those of the value
abbrev pub type_places : Packet → List Typ
type_places p = part_types (flat_map def_parts p.defs ++ OfType p.ty ∷ value_parts p.value)

-- whether a type is among some
abbrev pub is_among : List Typ → Typ → Bool
is_among Ts T = list_any (same T) Ts

-- a table with a type behind it, where it isn't in the table
abbrev pub with_type : List Typ → Typ → List Typ
with_type table T = elim (is_among table T) [ true ↦ table | false ↦ table ++ T ∷ [] ]

-- a table with some types, one after the other
abbrev pub with_types : List Typ → List Typ → List Typ
with_types table [] = table
with_types table (T ∷ Ts) = with_types (with_type table T) Ts

-- the table of a packet: each type of its places, in the order in which they come for the first time
abbrev pub table_of : Packet → List Typ
table_of p = with_types [] (type_places p)

-- the number of a type in a table: how many stand before it
abbrev pub number_in : List Typ → Typ → ℕ
number_in [] T = 0
number_in (U ∷ Us) T = elim (same T U) [ true ↦ 0 | false ↦ suc (number_in Us T) ]

abbrev pub numbered : List Typ → Typ → Bytes
numbered table T = four_written (number_in table T)

-- the bytes of a packet with a table: its types in full, and then all else, with a number in each place of a type
abbrev pub tabled_bytes_by : List Typ → Packet → Bytes
tabled_bytes_by table p = tag.packet_front ++ tag.packet_by_table ∷ listed four_written type_bytes table ++ body_bytes (numbered table) p

abbrev pub tabled_bytes : Packet → Bytes
tabled_bytes p = tabled_bytes_by (table_of p) p

-- how many bytes some types have together, each spelled in full
abbrev pub in_full : List Typ → ℕ
in_full [] = 0
in_full (T ∷ Ts) = length (type_bytes T) + in_full Ts

-- the bytes of a packet within the bounds, no more than such a packet may have, and no more of types than its places may have
pub record SpellsByTable (bytes : Bytes) (p : Packet) : Type 0 where
  pub fits : IsTrue (fits_packet p)
  pub spelled : bytes ≡ tabled_bytes p
  pub short : length bytes ≤ longest_tabled
  pub spread : in_full (type_places p) ≤ longest_tabled

-- bytes spell a packet in one of its versions: 1, with types in full, or 3, with a table
pub data SpellsIn (bytes : Bytes) (p : Packet) : Type 0 where
  InFull : Spells bytes p → SpellsIn bytes p
  ByTable : SpellsByTable bytes p → SpellsIn bytes p

-- The same table in the words of the format, which a law ties to `with_types`.

-- how many numbers there are, where each that comes for the first time is the count of those that came before; none where one isn't
abbrev pub counted_up : ℕ → List ℕ → Option ℕ
counted_up k [] = Some k
counted_up k (n ∷ ns) = elim (nat_lt n k) [ true ↦ counted_up k ns | false ↦ elim (nat_eq n k) [ true ↦ counted_up (suc k) ns | false ↦ None ] ]

-- the types of a table are distinct
abbrev pub types_distinct : List Typ → Bool
types_distinct [] = true
types_distinct (T ∷ Ts) = not (is_among Ts T) && types_distinct Ts

-- a table of distinct types and the numbers in some places: each number is in the table, each type is used, first ones come in order, and they stand for these types
pub record IsTable (table : List Typ) (numbers : List ℕ) (Ts : List Typ) : Type 0 where
  pub distinct : IsTrue (types_distinct table)
  pub in_order : counted_up 0 numbers ≡ Some (length table)
  pub stand_for : map (slice_get table) numbers ≡ map Some Ts
