-- The string of a value of a type without functions and abstract types has no definitions, and lands over all definitions as the packed value.
use Rattle.std.proofs.Common.{◌≡◌, refl, sym, ap, ap₂, ◌∙◌, ℕ, zero, suc, ◌≤◌, true, false, ◌&&◌, nat_lt, [], ◌++◌, length, Option, Some, None}
use Rattle.std.specs.Prelude.{not, is_some, filter_map}
use Rattle.std.specs.List.{list_all}
use Rattle.std.specs.Option.{option_or}
use Rattle.std.proofs.lemmas.Bool.Decides.{nat_tests}
use native.Mathlib.Omega.{arith}
use Rattle.sha2.specs.Sha256.{sha256}
use Rattle.ac_types.proofs.Same.{same_refl}
use Rattle.ac_types.specs.Limits.{longest_packet, deepest_nesting, most_entries}
use Rattle.ac_types.specs.Partial.{given}
use Rattle.ac_types.specs.Types.{Bytes, Typ, mentions}
use Rattle.ac_terms.specs.Terms.{PValue}
use Rattle.ac_terms.specs.Defs.{Environment, Packet, find_name}
use Rattle.ac_terms.specs.Bounds.{Spells}
use Rattle.ac_terms.specs.Heads.{packed_heads}
use Rattle.ac_terms.specs.Parts.{part_refs, part_homes, part_mentions, value_parts}
use Rattle.ac_terms.specs.PacketReading.{packet_of}
use Rattle.ac_terms.proofs.SpelledLaws.{spelled_is_read}
use Rattle.ac_rules.specs.Views.{Coloured, is_known}
use Rattle.ac_rules.specs.Typing.{holds}
use Rattle.ac_rules.specs.Needed.{mark_at, spoken_of, needed_below, needed_by, roots_of, place_in, packet_of_entries, packet_for}
use Rattle.ac_rules.specs.Packets.{Full, WrongType, NoValue, placed_number, alone, is_there, is_home_there, value_there, too_many, wrong_type, is_value, cause}
use Rattle.ac_rules.specs.Faults.{Fault, AString, first_fault, whole_fault, whole, behind, cut_at, marshalled}
use Rattle.ac_rules.specs.Coherent.{IsCoherent}
use Rattle.ac_rules.specs.RoundTrip.{IsPackable}
use Rattle.ac_rules.proofs.Rules.{some_there}
use Rattle.ac_rules.proofs.RoundTrip.{marshal_round_trip}
use Rattle.ac_meaning.specs.Packing.{Lands, admitted, received, landing}
use Rattle.ac_meaning.proofs.Inst.{ap₃}
use Rattle.ac_round_trip.specs.Strings.{IsData}
use Rattle.ac_round_trip.proofs.NoParts.{no_numbers, no_parts}
use Rattle.ac_round_trip.proofs.DataTypes.{data_flat, data_holds}

-- a packet without definitions
abbrev pub bare_packet : Typ → PValue → Packet
bare_packet T w = record { defs = []; ty = T; value = w }

not_more : (most n : ℕ) → n ≤ most → nat_lt most n ≡ false
not_more most n h = grind (arith, nat_tests)

module _ (T : Typ) (w : PValue) (no_name : mentions T ≡ []) (no_part : value_parts w ≡ []) where
  -- the packet of the value
  module _ (E : Environment) (mark : ℕ) where
    no_roots : roots_of E T w ≡ []
    no_roots = ap₂ (λ ps xs. spoken_of E ps ++ filter_map (λ (p : Bytes × Bytes). find_name E p.0) xs) no_part no_name

    none_needed : (k : ℕ) → needed_below E mark k [] ≡ []
    none_needed zero = refl
    none_needed (suc k) = none_needed k

    pub no_definitions : packet_for E mark T w ≡ bare_packet T w
    no_definitions =
        ap (λ is. packet_of_entries E mark is T w) (ap (needed_by E mark) no_roots ∙ none_needed (length E)) ∙ ap (bare_packet T) (no_numbers (place_in []) w no_part)

  -- it is accepted over all definitions over which the value holds
  module _ (F : Environment) (coherent : IsCoherent F) (of_type : holds Coloured false F w T ≡ true) where
    abbrev p : Packet
    p = bare_packet T w

    same_value : value_there sha256 F p ≡ w
    same_value = no_numbers (placed_number []) w no_part

    room : too_many sha256 F [] ≡ None
    room = ap (λ b. given b (Some (Full (length F)))) (not_more most_entries (length F) coherent.few)

    own_type : wrong_type sha256 p T ≡ None
    own_type = ap (λ b. given (not b) (Some WrongType)) (same_refl T)

    valued : is_value sha256 F p T ≡ true
    valued =
        ap₂ (λ xs ps. list_all (is_known (alone sha256 [])) (xs ++ part_mentions ps) && list_all (is_there sha256 []) (part_refs ps) && list_all (is_home_there sha256 []) (part_homes ps) && holds Coloured false F (value_there sha256 F p) T) no_name no_part ∙
        ap (λ x. holds Coloured false F x T) same_value ∙ of_type

    no_cause : cause sha256 F p T ≡ None
    no_cause =
        ap₃ (λ a b c. option_or a (option_or None (option_or b (option_or c None)))) room own_type (ap (λ b. given (not b) (Some NoValue)) valued)

    pub lands : admitted F p (cause sha256 F p T) ≡ Lands F w
    lands = ap (admitted F p) no_cause ∙ ap (Lands F) same_value

-- the string of a packed value of such a type
module _ (E : Environment) (coherent : IsCoherent E) (mark : Bytes) (T : Typ) (w : PValue) (s : Bytes) (is_data : IsData T) (packable : IsPackable E T w) (made : marshalled E mark T w ≡ AString s) where
  no_part : value_parts w ≡ []
  no_part = no_parts E coherent w T packable.type_known (data_flat E T is_data) packable.value_holds

  mark_there : (m : ℕ) × (mark_at E mark ≡ Some m) × Spells s (packet_for E m T w)
  mark_there = let r = marshal_round_trip E mark T w s coherent packable made in (r.0, r.1, r.2)

  read : packet_of s ≡ Some (bare_packet T w)
  read = spelled_is_read s (packet_for E mark_there.0 T w) mark_there.2 ∙ ap Some (no_definitions T w is_data.no_name no_part E mark_there.0)

  module _ (F : Environment) (F_coherent : IsCoherent F) where
    pub holds_there : holds Coloured false F w T ≡ true
    holds_there = data_holds E F w T is_data packable.value_holds

    pub lands_anywhere : landing F T s ≡ Lands F w
    unfolding landing
    lands_anywhere = ap (received F T) read ∙ lands T w is_data.no_name no_part F F_coherent holds_there

    -- at any mark it is packed there into that string
    same_packet : (m : ℕ) → packet_for F m T w ≡ packet_for E mark_there.0 T w
    same_packet m = no_definitions T w is_data.no_name no_part F m ∙ sym (no_definitions T w is_data.no_name no_part E mark_there.0)

    same_behind : (m : ℕ) (o : Option Fault) → behind F m T w o ≡ behind E mark_there.0 T w o
    same_behind m (Some f) = refl
    same_behind m None = ap (λ q. whole q (whole_fault q)) (same_packet m)

    pub made_there : (other : Bytes) → is_some (mark_at F other) ≡ true → marshalled F other T w ≡ AString s
    made_there other h =
        let m = some_there (mark_at F other) h in
        ap (cut_at F T w) m.1 ∙ same_behind m.0 (first_fault deepest_nesting longest_packet 0 (packed_heads T w)) ∙ sym (ap (cut_at E T w) mark_there.1) ∙ made
