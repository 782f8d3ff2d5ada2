-- How packets with a table of types are read. The law that ties the definitions to `SpellsByTable` says all that a reader has to believe.
use Rattle.std.specs.Prelude.{ℕ, Bool, ◌&&◌, nat_le, List, length, Option, Some, None, option_and_then, option_map, slice_get}
use Rattle.std.specs.Option.{option_or}
use Rattle.ac_types.specs.Partial.{given}
use Rattle.ac_types.specs.Limits.{longest_tabled, deepest_nesting}
use Rattle.ac_types.specs.Types.{Bytes, Typ, same_bytes}
use Rattle.ac_terms.specs.Defs.{Packet}
use Rattle.ac_terms.specs.Bounds.{fits_packet}
use Rattle.ac_terms.specs.ReadBy.{read_def, read_value}
use Rattle.ac_terms.specs.PacketReading.{ReadsPart, one, then_read, pair, bytes_read, read_list, read_two, read_four, read_type, a_packet, packet_of}
use Rattle.ac_terms.specs.Tables.{type_places, in_full, tabled_bytes}

-- a number of four bytes, read as the type of a table that it stands for
abbrev pub read_number : List Typ → ReadsPart Typ
read_number table bs = option_and_then (λ (p : ℕ × Bytes). option_map (λ T. (T, p.1)) (slice_get table p.0)) (read_four bs)

-- definitions, type and value, whatever reads types
abbrev pub read_body : ReadsPart Typ → ReadsPart Packet
read_body f = one a_packet (pair (pair (read_list read_two (read_def f read_two deepest_nesting)) f) (read_value f read_two deepest_nesting))

-- a packet, behind a head of five bytes
abbrev pub read_tabled : ReadsPart Packet
read_tabled bs = then_read (bytes_read 5) (λ head. then_read (read_list read_four read_type) (λ table. read_body (read_number table))) bs

-- whether bytes spell a packet with a table
abbrev pub spells_by_table : Bytes → Packet → Bool
spells_by_table bytes p = fits_packet p && same_bytes bytes (tabled_bytes p) && nat_le (length bytes) longest_tabled && nat_le (in_full (type_places p)) longest_tabled

-- the packet that bytes spell with a table, where they spell one: what is read of them, if it is spelled so
abbrev pub tabled_packet_of : Bytes → Option Packet
tabled_packet_of bytes = option_and_then (λ (r : Packet × Bytes). given (spells_by_table bytes r.0) (Some r.0)) (read_tabled bytes)

-- the packet that bytes spell in one of its versions
abbrev pub any_packet_of : Bytes → Option Packet
any_packet_of bytes = option_or (packet_of bytes) (tabled_packet_of bytes)

-- a string renewed: where it spells a packet, the one that spells it with a table; any other stays
abbrev pub renewed : Bytes → Bytes
renewed bytes = elim (any_packet_of bytes) [ None ↦ bytes | Some p ↦ tabled_bytes p ]
