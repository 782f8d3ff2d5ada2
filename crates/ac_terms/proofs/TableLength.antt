-- A packet that is spelled with types in full is spelled with a table too, in at most 3,844,780 bytes.
use Rattle.std.proofs.Common.{◌≡◌, refl, ap, ◌+◌, ◌*◌, ◌≤◌, true, List, [], ◌∷◌, length, length-append}
use Rattle.std.specs.Prelude.{flat_map}
use native.Mathlib.Omega.{arith}
use Rattle.ac_types.specs.Limits.{longest_packet, longest_renewed}
use Rattle.ac_types.specs.Types.{Bytes, Typ}
use Rattle.ac_terms.specs.Defs.{Packet}
use Rattle.ac_terms.specs.Spelling.{four_written, listed, type_bytes, packet_bytes}
use Rattle.ac_terms.specs.SpelledBy.{body_bytes}
use Rattle.ac_terms.specs.Bounds.{fits_packet, Spells}
use Rattle.ac_terms.specs.Tables.{type_places, table_of, numbered, in_full, tabled_bytes, SpellsByTable}
use Rattle.ac_terms.proofs.Measures.{weight, body}
use Rattle.ac_terms.proofs.TableLaws.{full_long, full_spelled, table_full}

full_weight : (Ts : List Typ) → in_full Ts ≡ weight type_bytes Ts
full_weight [] = refl
full_weight (T ∷ Ts) = ap (λ n. length (type_bytes T) + n) (full_weight Ts)

-- a number has four bytes
four_weight : (table Ts : List Typ) → weight (numbered table) Ts ≡ 4 * length Ts
four_weight table [] = refl
four_weight table (T ∷ Ts) = omega (arith, four_weight table Ts)

packet_long : (p : Packet) → length (packet_bytes p) ≡ 5 + length (body_bytes type_bytes p)
packet_long p = omega arith

tabled_long : (p : Packet) → length (tabled_bytes p) ≡ 9 + in_full (table_of p) + length (body_bytes (numbered (table_of p)) p)
tabled_long p =
    let table : List Typ = table_of p in
    omega (arith, length-append (listed four_written type_bytes table) (body_bytes (numbered table) p), length-append (four_written (length table)) (flat_map type_bytes table), full_spelled table)

-- the two lengths: each place of a type costs at most four bytes more, and the count of the table four
pub longer : (p : Packet) → fits_packet p ≡ true → length (tabled_bytes p) ≤ length (packet_bytes p) + 4 + 4 * length (type_places p)
longer p w =
    let m = body p w in
    let table : List Typ = table_of p in
    omega (arith, packet_long p, tabled_long p, m.weighed type_bytes, m.weighed (numbered table), four_weight table (type_places p), full_weight (type_places p), table_full [] (type_places p))

-- there are at most two places for three bytes
pub two_for_three : (p : Packet) → fits_packet p ≡ true → 3 * length (type_places p) ≤ 2 * length (packet_bytes p)
two_for_three p w =
    let m = body p w in
    omega (arith, packet_long p, m.weighed type_bytes, m.dense, full_weight (type_places p), full_long (type_places p))

-- the types of the places are among the bytes
pub full_within : (p : Packet) → fits_packet p ≡ true → in_full (type_places p) ≤ length (packet_bytes p)
full_within p w =
    let m = body p w in
    omega (arith, packet_long p, m.weighed type_bytes, full_weight (type_places p))

pub also_by_table : (bytes : Bytes) (p : Packet) → Spells bytes p → SpellsByTable (tabled_bytes p) p × (length (tabled_bytes p) ≤ longest_renewed)
also_by_table bytes p s =
    let old : length (packet_bytes p) ≤ longest_packet = omega (arith, s.short, ap length s.spelled) in
    let places_few = two_for_three p s.fits in
    let new = longer p s.fits in
    let short : length (tabled_bytes p) ≤ longest_renewed = omega (arith, old, places_few, new) in
    (record { fits = s.fits; spelled = refl; short = omega (arith, short); spread = omega (arith, old, full_within p s.fits) }, short)
