-- Packets with a table of types are read back from their spelling: so a string spells at most one packet, in whichever version.
use Rattle.std.proofs.Common.{◌≡◌, refl, sym, ap, subst, ◌∙◌, ℕ, ◌<◌, ◌≤◌, ◌^◌, Bool, true, false, ◌&&◌, List, [], ◌++◌, length, Option, Some, None, append-nil}
use Rattle.std.specs.Prelude.{slice_get, nat_le, nat_eq, option_and_then, option_map}
use Rattle.std.specs.List.{list_all}
use Rattle.std.specs.Option.{option_or}
use mathlib.Core.Bool.{true≢false}
use native.Mathlib.Omega.{arith}
use Rattle.ac_types.proofs.FirstLaws.{none≢some, some_eq}
use Rattle.ac_types.proofs.Same.{both_true, and_true, bytes_eq, bytes_refl}
use Rattle.ac_types.specs.Partial.{given}
use Rattle.ac_types.specs.Limits.{longest_tabled}
use Rattle.ac_types.specs.Types.{Bytes, Typ, same_bytes}
use Rattle.ac_terms.specs.Terms.{Pattern, Expr, PValue}
use Rattle.ac_terms.specs.Defs.{Def, Packet}
use Rattle.ac_terms.specs.Nesting.{nesting, value_nesting, pattern_nesting}
use Rattle.ac_terms.specs.Parts.{pattern_types, term_parts, value_parts}
use Rattle.ac_terms.specs.Spelling.{four_written, two_written}
use Rattle.ac_terms.specs.SpelledBy.{pattern_bytes, term_bytes, value_bytes, def_bytes}
use Rattle.ac_terms.specs.Bounds.{is_four, fits_type, fits_pattern, fits_term, fits_value, fits_def, fits_packet, is_module_or_import, def_nesting, Spells}
use Rattle.ac_terms.specs.ReadBy.{read_pattern, read_term, read_value, read_def}
use Rattle.ac_terms.specs.PacketReading.{read_two, packet_of}
use Rattle.ac_terms.specs.Tables.{type_places, is_among, with_types, table_of, number_in, numbered, in_full, tabled_bytes, SpellsByTable, SpellsIn, InFull, ByTable, IsTable, tabled_bytes_by}
use Rattle.ac_terms.specs.TableReading.{read_number, read_body, read_tabled, spells_by_table, tabled_packet_of, any_packet_of}
use Rattle.ac_terms.proofs.Back.{Back, back_after, back_list, back_two_bytes, back_four_bytes, none_begins}
use Rattle.ac_terms.proofs.TypeBack.{back_type}
use Rattle.ac_terms.proofs.TermBackBy.{back_pattern, back_term, back_value}
use Rattle.ac_terms.proofs.DefBackBy.{back_def, back_body}
use Rattle.ac_terms.proofs.DefBack.{spells_one}
use Rattle.ac_terms.proofs.SpelledLaws.{read_is_spelled, spelled_is_read}
use Rattle.ac_terms.proofs.PartTypes.{AllGood, types_in}
use Rattle.ac_terms.proofs.RenumberedLaws.{same_term, same_value}
use Rattle.ac_terms.proofs.Measures.{packet_types_fit}
use Rattle.ac_terms.proofs.TableLaws.{number_there, number_below, all_among, table_all, full_long, table_full, only_table}
use Rattle.ac_terms.proofs.TestLaws.{le_true, le_is, lt_is}

-- a table of fewer than 2^32 types
module _ (table : List Typ) (few : length table < 2 ^ 32) where
  -- a number in a type's place is read as the type
  pub back_number : (own : Bool) (T : Typ) → fits_type own T ≡ true → is_among table T ≡ true → Back (read_number table) (numbered table T) T
  back_number own T w there =
      let n : ℕ = number_in table T in
      let low : is_four n ≡ true = lt_is n (2 ^ 32) (omega (arith, number_below table T there, few)) in
      record {
        reads = λ r. ap (option_and_then (λ (p : ℕ × Bytes). option_map (λ U. (U, p.1)) (slice_get table p.0))) ((back_four_bytes n low).reads r) ∙ ap (option_map (λ U. (U, r))) (number_there table T there);
      }

  -- under one table no spelling of a pattern, a term, a value or a definition begins that of another of its kind
  pub pattern-none_begins : (p q : Pattern) (r s : Bytes) → pattern_nesting p ≤ 500 → pattern_nesting q ≤ 500 → fits_pattern p ≡ true → fits_pattern q ≡ true → list_all (is_among table) (pattern_types p) ≡ true → list_all (is_among table) (pattern_types q) ≡ true →
      pattern_bytes (numbered table) p ++ r ≡ pattern_bytes (numbered table) q ++ s → (p ≡ q) × (r ≡ s)
  pattern-none_begins p q r s h k v w x y e =
      none_begins (read_pattern (read_number table) 500) (back_pattern (numbered table) (read_number table) (is_among table) back_number p 500 h v x) (back_pattern (numbered table) (read_number table) (is_among table) back_number q 500 k w y) r s e

  back_whole_value : (v : PValue) → value_nesting v ≤ 500 → fits_value v ≡ true → AllGood (is_among table) (value_parts v) → Back (read_value (read_number table) read_two 500) (value_bytes (numbered table) two_written v) v
  back_whole_value v h w g =
      subst (Back (read_value (read_number table) read_two 500) (value_bytes (numbered table) two_written v)) (same_value v)
      (back_value (numbered table) (read_number table) (is_among table) back_number two_written (λ j. j) read_two back_two_bytes (λ j. refl) v 500 h w g)

  pub value-none_begins : (u v : PValue) (r s : Bytes) → value_nesting u ≤ 500 → value_nesting v ≤ 500 → fits_value u ≡ true → fits_value v ≡ true → AllGood (is_among table) (value_parts u) → AllGood (is_among table) (value_parts v) →
      value_bytes (numbered table) two_written u ++ r ≡ value_bytes (numbered table) two_written v ++ s → (u ≡ v) × (r ≡ s)
  value-none_begins u v r s h k w x f g e = none_begins (read_value (read_number table) read_two 500) (back_whole_value u h w f) (back_whole_value v k x g) r s e

  back_whole_term : (within : Bool) (t : Expr) → nesting t ≤ 500 → fits_term within t ≡ true → AllGood (is_among table) (term_parts t) → Back (read_term (read_number table) read_two 500) (term_bytes (numbered table) two_written t) t
  back_whole_term within t h w g =
      subst (Back (read_term (read_number table) read_two 500) (term_bytes (numbered table) two_written t)) (same_term t)
      (back_term (numbered table) (read_number table) (is_among table) back_number two_written (λ j. j) read_two back_two_bytes within (λ e j. refl) t 500 h w g)

  pub term-none_begins : (within : Bool) (t u : Expr) (r s : Bytes) → nesting t ≤ 500 → nesting u ≤ 500 → fits_term within t ≡ true → fits_term within u ≡ true → AllGood (is_among table) (term_parts t) → AllGood (is_among table) (term_parts u) →
      term_bytes (numbered table) two_written t ++ r ≡ term_bytes (numbered table) two_written u ++ s → (t ≡ u) × (r ≡ s)
  term-none_begins within t u r s h k w x f g e = none_begins (read_term (read_number table) read_two 500) (back_whole_term within t h w f) (back_whole_term within u k x g) r s e

  back_whole_def : (d : Def) → is_module_or_import d ≡ true → fits_def d ≡ true → list_all (λ n. nat_le n 500) (def_nesting d) ≡ true → list_all (is_among table) (types_in d) ≡ true → Back (read_def (read_number table) read_two 500) (def_bytes (numbered table) d) d
  back_whole_def d i w h g = back_def (numbered table) (read_number table) (is_among table) back_number 500 d i w h g

  pub def-none_begins : (d e : Def) (r s : Bytes) → is_module_or_import d ≡ true → is_module_or_import e ≡ true → fits_def d ≡ true → fits_def e ≡ true → list_all (λ n. nat_le n 500) (def_nesting d) ≡ true → list_all (λ n. nat_le n 500) (def_nesting e) ≡ true →
      list_all (is_among table) (types_in d) ≡ true → list_all (is_among table) (types_in e) ≡ true → def_bytes (numbered table) d ++ r ≡ def_bytes (numbered table) e ++ s → (d ≡ e) × (r ≡ s)
  def-none_begins d e r s i j v w h k f g p = none_begins (read_def (read_number table) read_two 500) (back_whole_def d i v h f) (back_whole_def e j w k g) r s p

-- a packet has one spelling with a table, whichever table the words of the format allow
pub any_table : (p : Packet) (table : List Typ) (numbers : List ℕ) → IsTable table numbers (type_places p) → tabled_bytes_by table p ≡ tabled_bytes p
any_table p table numbers h = ap (λ t. tabled_bytes_by t p) (only_table table numbers (type_places p) h).0

-- a packet's table is short where its places have few bytes of types
pub few_types : (p : Packet) → in_full (type_places p) ≤ longest_tabled → length (table_of p) ≤ longest_tabled
few_types p h = omega (arith, h, full_long (with_types [] (type_places p)), table_full [] (type_places p))

-- a packet is read back from its spelling with a table, whatever follows
pub back_tabled : (p : Packet) → fits_packet p ≡ true → in_full (type_places p) ≤ longest_tabled → Back read_tabled (tabled_bytes p) p
back_tabled p w h =
    let table : List Typ = table_of p in
    let low : length table ≤ longest_tabled = few_types p h in
    let few : length table < 2 ^ 32 = omega (arith, low) in
    let fit : list_all (fits_type true) table ≡ true = table_all (fits_type true) [] (type_places p) refl (packet_types_fit p w) in
    record {
      reads = (back_after (λ t. read_body (read_number t)) (back_list (back_type true) four_written table (back_four_bytes (length table) (lt_is (length table) (2 ^ 32) few)) fit)
          (back_body (numbered table) (read_number table) (is_among table) (back_number table few) p w (all_among [] (type_places p)))).reads;
    }

-- a string spells at most one packet with a table
pub spells_one_by_table : (bytes : Bytes) (p q : Packet) → SpellsByTable bytes p → SpellsByTable bytes q → p ≡ q
spells_one_by_table bytes p q s t =
    (none_begins read_tabled (back_tabled p s.fits s.spread) (back_tabled q t.fits t.spread) [] [] (ap (λ bs. bs ++ []) (sym s.spelled ∙ t.spelled))).0

-- and none with a table and with types in full
abbrev is_one : Option ℕ → Bool
is_one None = false
is_one (Some n) = nat_eq n 1

pub one_version : (bytes : Bytes) (p q : Packet) → Spells bytes p → SpellsByTable bytes q → ⊥
one_version bytes p q s t = true≢false (ap (λ (bs : Bytes). is_one (slice_get bs 4)) (sym s.spelled ∙ t.spelled))

-- so a string spells at most one packet
pub spells_in_one : (bytes : Bytes) (p q : Packet) → SpellsIn bytes p → SpellsIn bytes q → p ≡ q
spells_in_one bytes p q (InFull s) (InFull t) = spells_one bytes p q s t
spells_in_one bytes p q (InFull s) (ByTable t) = absurd (one_version bytes p q s t)
spells_in_one bytes p q (ByTable s) (InFull t) = absurd (one_version bytes q p t s)
spells_in_one bytes p q (ByTable s) (ByTable t) = spells_one_by_table bytes p q s t

-- What is read of bytes is what they spell with a table, and nothing else.
given_some : {A : Type 0} (t : Bool) (a b : A) → given t (Some a) ≡ Some b → (t ≡ true) × (a ≡ b)
given_some true a b e = (refl, some_eq e)
given_some false a b e = absurd (none≢some e)

by_table_sound : (bytes : Bytes) (p : Packet) → spells_by_table bytes p ≡ true → SpellsByTable bytes p
by_table_sound bytes p e =
    let a = both_true _ _ e in
    let b = both_true _ _ a.0 in
    let c = both_true _ _ b.0 in
    record { fits = c.0; spelled = bytes_eq bytes (tabled_bytes p) c.1; short = le_true (length bytes) longest_tabled b.1; spread = le_true (in_full (type_places p)) longest_tabled a.1 }

by_table_whole : (bytes : Bytes) (p : Packet) → SpellsByTable bytes p → spells_by_table bytes p ≡ true
by_table_whole bytes p s =
    let same : same_bytes bytes (tabled_bytes p) ≡ true = subst (λ b. same_bytes bytes b ≡ true) s.spelled (bytes_refl bytes) in
    let c : (fits_packet p && same_bytes bytes (tabled_bytes p)) ≡ true = and_true {a = fits_packet p} {b = same_bytes bytes (tabled_bytes p)} s.fits same in
    let b : (fits_packet p && same_bytes bytes (tabled_bytes p) && nat_le (length bytes) longest_tabled) ≡ true = and_true {a = fits_packet p && same_bytes bytes (tabled_bytes p)} {b = nat_le (length bytes) longest_tabled} c (le_is (length bytes) longest_tabled s.short) in
    and_true {a = fits_packet p && same_bytes bytes (tabled_bytes p) && nat_le (length bytes) longest_tabled} {b = nat_le (in_full (type_places p)) longest_tabled} b (le_is (in_full (type_places p)) longest_tabled s.spread)

pub table_read_is_spelled : (bytes : Bytes) (p : Packet) → tabled_packet_of bytes ≡ Some p → SpellsByTable bytes p
table_read_is_spelled bytes p e = by_table_sound bytes p (by (read_tabled bytes) e)
  where
    by : (o : Option (Packet × Bytes)) → option_and_then (λ (r : Packet × Bytes). given (spells_by_table bytes r.0) (Some r.0)) o ≡ Some p → spells_by_table bytes p ≡ true
    by None h = absurd (none≢some h)
    by (Some r) h = let g = given_some (spells_by_table bytes r.0) r.0 p h in subst (λ q. spells_by_table bytes q ≡ true) g.1 g.0

pub table_spelled_is_read : (bytes : Bytes) (p : Packet) → SpellsByTable bytes p → tabled_packet_of bytes ≡ Some p
table_spelled_is_read bytes p s =
    let whole : bytes ≡ tabled_bytes p ++ [] = s.spelled ∙ sym (append-nil (tabled_bytes p)) in
    let read : read_tabled bytes ≡ Some (p, []) = ap read_tabled whole ∙ (back_tabled p s.fits s.spread).reads [] in
    ap (option_and_then (λ (r : Packet × Bytes). given (spells_by_table bytes r.0) (Some r.0))) read ∙ ap (λ t. given t (Some p)) (by_table_whole bytes p s)

-- what is read in one of the versions is what the bytes spell in one of them
pub any_read_is_spelled : (bytes : Bytes) (p : Packet) → any_packet_of bytes ≡ Some p → SpellsIn bytes p
any_read_is_spelled bytes p e = by (packet_of bytes) refl e
  where
    by : (o : Option Packet) → packet_of bytes ≡ o → option_or o (tabled_packet_of bytes) ≡ Some p → SpellsIn bytes p
    by None q h = ByTable (table_read_is_spelled bytes p h)
    by (Some r) q h = InFull (read_is_spelled bytes p (q ∙ h))

pub any_spelled_is_read : (bytes : Bytes) (p : Packet) → SpellsIn bytes p → any_packet_of bytes ≡ Some p
any_spelled_is_read bytes p (InFull s) = ap (λ o. option_or o (tabled_packet_of bytes)) (spelled_is_read bytes p s)
any_spelled_is_read bytes p (ByTable s) = by (packet_of bytes) refl
  where
    by : (o : Option Packet) → packet_of bytes ≡ o → option_or o (tabled_packet_of bytes) ≡ Some p
    by None q = table_spelled_is_read bytes p s
    by (Some r) q = absurd (one_version bytes r p (read_is_spelled bytes r q) s)
