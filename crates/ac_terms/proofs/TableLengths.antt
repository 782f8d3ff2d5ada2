-- How long the packet of a list of ints is with a table: 22 bytes and nine for each; and that of a string: 21 bytes and the string.
use Rattle.std.proofs.Common.{◌≡◌, refl, ap, ◌∙◌, ℕ, ◌+◌, ◌*◌, List, [], ◌∷◌, length, map}
use Rattle.std.specs.Prelude.{ℤ}
use native.Mathlib.Omega.{arith}
use Rattle.ac_types.specs.Types.{Bytes, Typ, TInt, TStr, TList}
use Rattle.ac_terms.specs.Terms.{KInt, KStr, KList, pvalues, PValues}
use Rattle.ac_terms.specs.Defs.{Packet}
use Rattle.ac_terms.specs.Parts.{part_types, all_value_parts}
use Rattle.ac_terms.specs.Pieces.{two_written}
use Rattle.ac_terms.specs.SpelledBy.{all_value_bytes}
use Rattle.ac_terms.specs.Tables.{type_places, with_types, numbered, tabled_bytes_by, tabled_bytes}

abbrev pub ints : List ℤ → PValues
ints ns = pvalues (map KInt ns)

abbrev pub ints_packet : List ℤ → Packet
ints_packet ns = record { defs = []; ty = TList TInt; value = KList (ints ns) }

no_types_in : (ns : List ℤ) → part_types (all_value_parts (ints ns)) ≡ []
no_types_in [] = refl
no_types_in (n ∷ ns) = no_types_in ns

nine_each : (f : Typ → List ℕ) (ns : List ℤ) → length (all_value_bytes f two_written (ints ns)) ≡ 9 * length ns
nine_each f [] = refl
nine_each f (n ∷ ns) = omega (arith, nine_each f ns)

pub ints_long : (ns : List ℤ) → length (tabled_bytes (ints_packet ns)) ≡ 22 + 9 * length ns
ints_long ns =
    let places_are : type_places (ints_packet ns) ≡ TList TInt ∷ [] = ap (λ Ts. TList TInt ∷ Ts) (no_types_in ns) in
    let long : length (tabled_bytes_by (TList TInt ∷ []) (ints_packet ns)) ≡ 22 + 9 * length ns = omega (arith, nine_each (numbered (TList TInt ∷ [])) ns) in
    ap (λ Ts. length (tabled_bytes_by (with_types [] Ts) (ints_packet ns))) places_are ∙ long

-- so one of 100,000 ints has 900,022 bytes, one of 466,031 is the longest, and one more is too long
pub of_100000 : (ns : List ℤ) → length ns ≡ 100000 → length (tabled_bytes (ints_packet ns)) ≡ 900022
of_100000 ns e = omega (arith, ints_long ns, e)

pub of_466031 : (ns : List ℤ) → length ns ≡ 466031 → length (tabled_bytes (ints_packet ns)) ≡ 4194301
of_466031 ns e = omega (arith, ints_long ns, e)

pub of_466032 : (ns : List ℤ) → length ns ≡ 466032 → length (tabled_bytes (ints_packet ns)) ≡ 4194310
of_466032 ns e = omega (arith, ints_long ns, e)

-- the packet of a string
abbrev pub string_packet : Bytes → Packet
string_packet s = record { defs = []; ty = TStr; value = KStr s }

pub string_long : (s : Bytes) → length (tabled_bytes (string_packet s)) ≡ 21 + length s
string_long s = omega arith

-- so one of 2^21 bytes has a packet, and one of 2^22 has none
pub of_two_mebibytes : (s : Bytes) → length s ≡ 2097152 → length (tabled_bytes (string_packet s)) ≡ 2097173
of_two_mebibytes s e = omega (arith, string_long s, e)

pub of_four_mebibytes : (s : Bytes) → length s ≡ 4194304 → length (tabled_bytes (string_packet s)) ≡ 4194325
of_four_mebibytes s e = omega (arith, string_long s, e)
