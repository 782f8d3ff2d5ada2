-- Where the packet of a value is accepted, what the value speaks of has numbers of definitions of the same names.
use Rattle.std.proofs.Common.{◌≡◌, refl, sym, ap, ◌∙◌, subst, ℕ, ◌<◌, nat_eq, List, [], ◌++◌, length, append-nil, Some, None}
use Rattle.std.specs.Prelude.{Contains, slice_get, position, option_and_then, unwrap_or, filter_map, IsTrue}
use Rattle.std.proofs.lemmas.List.Elements.{Contains-append_left, Contains-append_right}
use native.Mathlib.Omega.{arith}
use Rattle.sha2.specs.Sha256.{sha256}
use Rattle.ac_types.specs.Types.{Bytes, Typ, mentions}
use Rattle.ac_terms.specs.Terms.{PValue}
use Rattle.ac_terms.specs.Defs.{Environment, Entry, Packet, find_name, name_at}
use Rattle.ac_terms.specs.Bounds.{fits_packet}
use Rattle.ac_terms.specs.Parts.{part_refs, part_homes, part_mentions, value_parts}
use Rattle.ac_rules.specs.Needed.{spoken_of, root, needed_by, roots_of, place_in, packet_for}
use Rattle.ac_rules.specs.Packets.{Placed, placed_number, places, value_there, cause, Accepts}
use Rattle.ac_rules.specs.Coherent.{IsCoherent}
use Rattle.ac_rules.specs.RoundTrip.{IsPackable}
use Rattle.ac_rules.proofs.ViewLaws.{within}
use Rattle.ac_rules.proofs.Alone.{A, many_alone}
use Rattle.ac_rules.proofs.AloneNames.{AllThere, shown, found_at}
use Rattle.ac_rules.proofs.NeededEarly.{needed_members}
use Rattle.ac_rules.proofs.PacketNames.{there, packet_alone}
use Rattle.ac_rules.proofs.Placing.{Stands}
use Rattle.ac_rules.proofs.Steps.{Stage}
use Rattle.ac_rules.proofs.Arrival.{stage}
use Rattle.ac_rules.proofs.Unspoken.{has_a_name}
use Rattle.ac_rules.proofs.ValueThere.{root_shows, roots}
use Rattle.ac_round_trip.specs.Copies.{HasNamesake}
use Rattle.ac_round_trip.proofs.FineParts.{AllFine, all_fine}

module _ (E : Environment) (coherent : IsCoherent E) (mark : ℕ) (T : Typ) (v : PValue) (packable : IsPackable E T v) where
  abbrev is : List ℕ
  is = needed_by E mark (roots_of E T v)

  abbrev p : Packet
  p = packet_for E mark T v

  all_there : AllThere E is
  all_there = there E coherent mark T v (roots E coherent mark T v packable)

  needed : (i : ℕ) → Contains (roots_of E T v) i → Contains is i
  needed i c = (needed_members E coherent mark (roots_of E T v) (roots E coherent mark T v packable) i).1 (root c)

  -- a needed entry stands among the packet's definitions, under its name
  record InPacket (j : ℕ) : Type 0 where
    before : place_in is j < length p.defs
    name : name_at (A p.defs) (place_in is j) ≡ name_at E j

  in_packet : (j : ℕ) → Contains is j → InPacket j
  in_packet j c =
      let x = all_there j c in
      let n = found_at E mark (place_in is) is [] j x.0 all_there c x.1 in
      let at : place_in is j ≡ n.0 = ap (λ xs. unwrap_or (position (nat_eq j) xs) 0) (sym (append-nil is)) ∙ ap (λ o. unwrap_or o 0) n.1 in
      let got : slice_get (A p.defs) (place_in is j) ≡ Some (shown E mark (place_in is) j x.0) = ap (slice_get (A p.defs)) at ∙ ap (λ Y. slice_get Y n.0) (packet_alone E coherent mark T v (roots E coherent mark T v packable)) ∙ n.2 in
      let many : length (A p.defs) ≡ length p.defs = omega (arith, many_alone [] p.defs) in
      record {
        before = subst (λ k. place_in is j < k) many (within (A p.defs) (place_in is j) (shown E mark (place_in is) j x.0) got);
        name = ap (option_and_then (λ (y : Entry). y.name)) got ∙ sym (ap (option_and_then (λ (y : Entry). y.name)) x.1);
      }

  -- what a value speaks of is a root
  spoken : (j : ℕ) → Contains (spoken_of E (value_parts v)) j → Contains (roots_of E T v) j
  spoken j c = Contains-append_left (spoken_of E (value_parts v)) (filter_map (λ (q : Bytes × Bytes). find_name E q.0) (mentions T)) j c

  ref_root : (j : ℕ) → Contains (part_refs (value_parts v)) j → Contains (roots_of E T v) j
  ref_root j c =
      spoken j (Contains-append_left (part_homes (value_parts v) ++ part_refs (value_parts v)) (filter_map (λ (q : Bytes × Bytes). find_name E q.0) (part_mentions (value_parts v))) j
      (Contains-append_right (part_homes (value_parts v)) (part_refs (value_parts v)) j c))

  home_root : (i : ℕ) → Contains (part_homes (value_parts v)) i → Contains (roots_of E T v) i
  home_root i c =
      spoken i (Contains-append_left (part_homes (value_parts v) ++ part_refs (value_parts v)) (filter_map (λ (q : Bytes × Bytes). find_name E q.0) (part_mentions (value_parts v))) i
      (Contains-append_left (part_homes (value_parts v)) (part_refs (value_parts v)) i c))

  -- accepted over other definitions
  module _ (F : Environment) (F_coherent : IsCoherent F) (fits : IsTrue (fits_packet p)) (no_cause : cause sha256 F p T ≡ None) where
    abbrev s : Placed
    s = places sha256 F p.defs

    -- the number of an entry there
    abbrev pub number : ℕ → ℕ
    number j = placed_number s.1 (place_in is j)

    accepted : Accepts F p T s.0 (value_there sha256 F p)
    accepted = record { no_cause = no_cause; entries = refl; value = refl }

    placed : Stage F p.defs (length p.defs) s
    placed = stage F p T s.0 (value_there sha256 F p) F_coherent fits accepted

    is_placed : (j : ℕ) → Contains (roots_of E T v) j → HasNamesake E s.0 number j
    is_placed j c =
        let n = has_a_name E coherent j (root_shows E coherent mark T v packable j c) in
        let i = in_packet j (needed j c) in
        let st : Stands s.0 s.1 (A p.defs) (place_in is j) = placed.stands (place_in is j) i.before in
        (n.0, n.1, ap (name_at s.0) st.is_number ∙ st.name ∙ i.name ∙ n.1)

    pub all_placed : AllFine E s.0 number (value_parts v)
    all_placed = all_fine E s.0 number (value_parts v) packable.small_types (λ j c. is_placed j (ref_root j c)) (λ i c. is_placed i (home_root i c))
