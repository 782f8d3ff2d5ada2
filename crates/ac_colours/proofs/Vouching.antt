-- A string that a program gave, and what comes of it where it is accepted, where each name has one text.
use Rattle.std.proofs.Common.{◌≡◌, refl, sym, ap, ◌∙◌, subst, ℕ, ◌<◌, Bool, true, false, nat_lt, List, [], ◌∷◌, ◌++◌, length, map, Option, Some, None}
use Rattle.std.specs.Prelude.{Contains, slice_get, is_some}
use Rattle.std.specs.List.{list_all}
use Rattle.std.proofs.lemmas.Bool.{ltb-true, ltb-false}
use Rattle.std.proofs.lemmas.List.Elements.{Contains-append_left}
use native.Mathlib.Omega.{arith}
use Rattle.sha2.specs.Sha256.{sha256}
use Rattle.ac_types.proofs.Same.{both_true, and_true}
use Rattle.ac_types.specs.Types.{Bytes, Typ}
use Rattle.ac_terms.specs.Terms.{In, PValue}
use Rattle.ac_terms.specs.Defs.{Environment, Entry, Def, Packet, module_at, name_at}
use Rattle.ac_terms.specs.Parts.{Portion, part_refs, part_homes, value_parts}
use Rattle.ac_terms.specs.Renumbered.{value_renumbered}
use Rattle.ac_terms.specs.Bounds.{Spells}
use Rattle.ac_terms.specs.PacketReading.{packet_of}
use Rattle.ac_terms.proofs.SpelledLaws.{spelled_is_read}
use Rattle.ac_rules.specs.Views.{Coloured, are_known}
use Rattle.ac_rules.specs.Needed.{root, spoken_of, needed_by, roots_of, place_in, packet_for}
use Rattle.ac_rules.specs.Packets.{PacketCause, Placed, placed_number, places, value_there, cause, Accepts}
use Rattle.ac_rules.specs.Faults.{AString, marshalled}
use Rattle.ac_rules.specs.RoundTrip.{IsPackable}
use Rattle.ac_rules.specs.Coherent.{IsCoherent}
use Rattle.ac_rules.proofs.Alone.{A, many_alone}
use Rattle.ac_rules.proofs.Arrival.{HasArrived, arrival, facts, stage}
use Rattle.ac_rules.proofs.Composed.{value_twice, value_still}
use Rattle.ac_rules.proofs.NeededEarly.{all_contains, needed_members}
use Rattle.ac_rules.proofs.NeededKinds.{is_there}
use Rattle.ac_rules.proofs.Placing.{Stands}
use Rattle.ac_rules.proofs.RenumberedParts.{homes_by, value_parts_by}
use Rattle.ac_rules.proofs.RoundTrip.{marshal_round_trip}
use Rattle.ac_rules.proofs.Rules.{then_some}
use Rattle.ac_rules.proofs.Spoken.{value_speaks, homes_modules}
use Rattle.ac_rules.proofs.Stages.{name_had, text_had}
use Rattle.ac_rules.proofs.Steps.{Facts, Stage}
use Rattle.ac_rules.proofs.Unspoken.{has_a_name}
use Rattle.ac_rules.proofs.ValueThere.{root_shows}
use Rattle.ac_rules.proofs.ViewLaws.{within}
use Rattle.ac_meaning.specs.Packing.{Lands, admitted, received, landing}
use Rattle.ac_colours.proofs.Brings.{Sits}
use Rattle.ac_colours.proofs.Carries.{said_carried}
use Rattle.ac_colours.proofs.KnownBoth.{Agreeing}
use Rattle.ac_colours.proofs.OneText.{Texts, AreOne, Keeps, agreeing, speaks_alike}
use Rattle.ac_colours.proofs.OwnPacked.{PackedOwned}
use Rattle.ac_colours.proofs.OwnedCarried.{Passes, homes_pass, value_on}
use Rattle.ac_colours.proofs.OwnText.{speaks}
use Rattle.ac_colours.proofs.PacketTexts.{packet_text, packet_named}
use Rattle.ac_colours.proofs.Says.{OfBirth, Said}
use Rattle.ac_colours.proofs.Sitting.{holds_sits}

-- where it was given: what was packed says what K holds of, and its functions write what their homes may
pub record Vouched (S : Texts) (K : OfBirth) (s : Bytes) : Type 0 where
  pub environment : Environment
  pub coherent : IsCoherent environment
  pub keeps : Keeps S environment
  pub mark : Bytes
  pub of_type : Typ
  pub value : PValue
  pub packable : IsPackable environment of_type value
  pub gives : marshalled environment mark of_type value ≡ AString s
  pub said : Said environment K of_type value
  pub owned : PackedOwned (speaks environment) value

mapped_all : (g : ℕ → ℕ) (p : ℕ → Bool) (xs : List ℕ) → list_all p (map g xs) ≡ true → list_all (λ j. p (g j)) xs ≡ true
mapped_all g p [] h = refl
mapped_all g p (x ∷ xs) h = let b = both_true (p (g x)) (list_all p (map g xs)) h in and_true {a = p (g x)} {b = list_all (λ j. p (g j)) xs} b.0 (mapped_all g p xs b.1)

accepted : (E : Environment) (T : Typ) (F : Environment) (v : PValue) (p : Packet) (c : Option PacketCause) → cause sha256 E p T ≡ c → admitted E p c ≡ Lands F v → Accepts E p T F v
accepted E T F v p (Some why) e h = absurd cc
accepted E T F v p None e h =
    let a : (places sha256 E p.defs).0 ≡ F = cc in
    let b : value_there sha256 E p ≡ v = cc in
    record { no_cause = e; entries = sym a; value = sym b }

read_so : (E : Environment) (T : Typ) (s : Bytes) (F : Environment) (v : PValue) (p : Packet) → packet_of s ≡ Some p → landing E T s ≡ Lands F v → Accepts E p T F v
unfolding landing
read_so E T s F v p r h = accepted E T F v p (cause sha256 E p T) refl (sym (ap (received E T) r) ∙ h)

module _ (S : Texts) (one_text : AreOne S) (K : OfBirth) (s : Bytes) (given : Vouched S K s) (E : Environment) (coherent : IsCoherent E) (keeps : Keeps S E) (T : Typ) (F : Environment) (v : PValue) (lands : landing E T s ≡ Lands F v) where
  abbrev X : Environment
  X = given.environment

  abbrev U : Typ
  U = given.of_type

  abbrev w : PValue
  w = given.value

  trip : (m : ℕ) × Spells s (packet_for X m U w)
  trip = let r = marshal_round_trip X given.mark U w s given.coherent given.packable given.gives in (r.0, r.2)

  abbrev p : Packet
  p = packet_for X trip.0 U w

  abbrev ds : List Def
  ds = p.defs

  accepts : Accepts E p T F v
  accepts = read_so E T s F v p (spelled_is_read s p trip.1) lands

  has : HasArrived E p T F v
  has = arrival E p T F v coherent trip.1.fits accepts

  abbrev placed : Placed
  placed = places sha256 E ds

  its_facts : Facts E ds
  its_facts = facts E p T F v coherent trip.1.fits accepts

  its_stage : Stage E ds (length ds) placed
  its_stage = stage E p T F v coherent trip.1.fits accepts

  roots : (i : ℕ) → Contains (roots_of X U w) i → i < length X
  roots i c = is_there X i (root_shows X given.coherent 0 U w given.packable i c)

  -- names and texts there are of entries here or where it was given
  placed_keeps : Keeps S placed.0
  placed_keeps i n t a b = by (nat_lt i (length E)) refl
    where
      inside : i < length placed.0
      inside = let e = then_some (λ (x : Entry). x.name) (slice_get placed.0 i) n a in within placed.0 i e.0 e.1

      by : (c : Bool) → nat_lt i (length E) ≡ c → S n t
      by true q =
          let l : i < length E = ltb-true i (length E) q in
          keeps i n t (sym (name_had E ds its_facts (length ds) placed its_stage i l) ∙ a) (sym (text_had E ds its_facts (length ds) placed its_stage i l) ∙ b)
      by false q =
          let f = its_stage.from i (ltb-false i (length E) q) inside in
          let o = packet_text X given.coherent trip.0 U w roots f.0 n t (sym f.2 ∙ a) (sym f.3 ∙ b) in
          given.keeps o.0 n t o.1 o.2

  pub keeps_after : Keeps S F
  keeps_after = subst (Keeps S) (sym accepts.entries) placed_keeps

  both : Agreeing X F
  both = agreeing S one_text X F given.coherent has.coherent given.keeps keeps_after

  abbrev is : List ℕ
  is = needed_by X trip.0 (roots_of X U w)

  -- the number of an entry in the end
  abbrev g : ℕ → ℕ
  g j = placed_number placed.1 (place_in is j)

  is_value : v ≡ value_renumbered g w
  is_value = accepts.value ∙ value_twice (place_in is) (placed_number placed.1) w

  is_type : U ≡ T
  is_type = has.of_type

  sits_there : Sits F U (value_renumbered g w)
  sits_there = subst (λ x. Sits F U x) is_value (subst (λ Y. Sits F Y v) (sym is_type) (holds_sits F v T (value_still v has.value_fits) has.value_holds))

  -- what it says is said there
  pub said_after : Said F K T v
  said_after =
      subst (λ Y. Said F K Y v) is_type (subst (λ x. Said F K U x) (sym is_value)
      (said_carried X F both K g w U given.packable.type_known (subst (λ Y. are_known F Y ≡ true) (sym is_type) has.type_known) (holds_sits X w U (value_still w given.packable.value_fits) given.packable.value_holds) sits_there given.said))

  member : (i : ℕ) → Contains (part_homes (value_parts w)) i → Contains is i
  member i c =
      let ps : List Portion = value_parts w in
      let a = Contains-append_left (part_homes ps) (part_refs ps) i c in
      let b = Contains-append_left (part_homes ps ++ part_refs ps) _ i a in
      (needed_members X given.coherent trip.0 (roots_of X U w) roots i).1 (root (Contains-append_left (spoken_of X ps) _ i b))

  home_here : (i : ℕ) → Contains (part_homes (value_parts w)) i → is_some (module_at X i) ≡ true
  home_here i c = all_contains (λ k. is_some (module_at X k)) (part_homes (value_parts w)) i (homes_modules X (value_parts w) (value_speaks Coloured X w U (value_still w given.packable.value_fits) given.packable.value_holds)) c

  home_there : (i : ℕ) → Contains (part_homes (value_parts w)) i → is_some (module_at F (g i)) ≡ true
  home_there i c =
      let homes : list_all (λ k. is_some (module_at F k)) (part_homes (value_parts (value_renumbered g w))) ≡ true = subst (λ x. list_all (λ k. is_some (module_at F k)) (part_homes (value_parts x)) ≡ true) is_value has.homes in
      let there = sym (ap (λ ps. list_all (λ k. is_some (module_at F k)) (part_homes ps)) (value_parts_by g w given.packable.value_fits) ∙ ap (list_all (λ k. is_some (module_at F k))) (homes_by g (value_parts w))) ∙ homes in
      all_contains (λ j. is_some (module_at F (g j))) (part_homes (value_parts w)) i (mapped_all g (λ k. is_some (module_at F k)) (part_homes (value_parts w)) there) c

  named_there : (i : ℕ) (n : Bytes) → Contains is i → name_at X i ≡ Some n → name_at F (g i) ≡ Some n
  named_there i n c q =
      let j : ℕ = place_in is i in
      let a : name_at (A ds) j ≡ Some n = packet_named X given.coherent trip.0 U w roots i c ∙ q in
      let e = then_some (λ (x : Entry). x.name) (slice_get (A ds) j) n a in
      let lt : j < length (A ds) = within (A ds) j e.0 e.1 in
      let many : length (A ds) ≡ length ds = omega (arith, many_alone [] ds) in
      by j a (its_stage.stands j (omega (arith, lt, many)))
    where
      by : (j : ℕ) → name_at (A ds) j ≡ Some n → Stands placed.0 placed.1 (A ds) j → name_at F (placed_number placed.1 j) ≡ Some n
      by j a st = subst (λ Y. name_at Y (placed_number placed.1 j) ≡ Some n) (sym accepts.entries) (ap (name_at placed.0) st.is_number ∙ st.name ∙ a)

  home_passes : (i : ℕ) → Contains (part_homes (value_parts w)) i → Passes (speaks X) (speaks F) g (In i)
  home_passes i c =
      let m = member i c in
      let n = has_a_name X given.coherent i (root_shows X given.coherent 0 U w given.packable i (Contains-append_left (spoken_of X (value_parts w)) _ i (Contains-append_left (part_homes (value_parts w) ++ part_refs (value_parts w)) _ i (Contains-append_left (part_homes (value_parts w)) (part_refs (value_parts w)) i c)))) in
      speaks_alike S one_text X F given.coherent has.coherent given.keeps keeps_after i (g i) n.0 n.1 (named_there i n.0 m n.1) (home_here i c) (home_there i c)

  -- and its functions write what their homes may
  pub owned_after : PackedOwned (speaks F) v
  owned_after = subst (PackedOwned (speaks F)) (sym is_value) (value_on (speaks X) (speaks F) g (λ q h. refl) w (homes_pass (speaks X) (speaks F) g (value_parts w) home_passes) given.owned)
