-- Why the string of a value may be refused among later definitions: for want of room, or of a link.
use Rattle.std.proofs.Common.{◌≡◌, refl, sym, ap, ◌∙◌, subst, ℕ, ◌<◌, Bool, true, false, [], length, ◌⊎◌, inl, inr, Option, Some, None}
use Rattle.std.specs.Prelude.{not, slice_get, nat_lt, is_some, option_map, unwrap_or, codes}
use Rattle.std.specs.Option.{option_or}
use Rattle.std.proofs.lemmas.Bool.{ltb-true}
use mathlib.Core.Bool.{true≢false}
use Rattle.sha2.specs.Sha256.{sha256}
use Rattle.ac_types.proofs.FirstLaws.{none≢some, some_eq}
use Rattle.ac_types.proofs.Same.{same_refl}
use Rattle.ac_types.specs.Limits.{most_entries}
use Rattle.ac_types.specs.Partial.{given, first_failing}
use Rattle.ac_types.specs.Types.{Typ}
use Rattle.ac_terms.specs.Terms.{PValue}
use Rattle.ac_terms.specs.Defs.{Environment, Import, Def, AModule, AnImport, AMark, Packet}
use Rattle.ac_rules.specs.Views.{Coloured}
use Rattle.ac_rules.specs.Links.{linked, InPacket}
use Rattle.ac_rules.specs.Needed.{packet_for}
use Rattle.ac_rules.specs.Packets.{PacketCause, Full, Unresolved, WrongType, NoValue, ill_formed, clash, too_many, is_resolved, unresolved, wrong_type, is_value, no_value, places, cause}
use Rattle.ac_rules.specs.RoundTrip.{IsPackable, IsExcused}
use Rattle.ac_rules.specs.Growth.{Grows}
use Rattle.ac_rules.proofs.Composed.{value_still}
use Rattle.ac_rules.proofs.Growth.{known_more}
use Rattle.ac_rules.proofs.GrowthNeeded.{packet_same}
use Rattle.ac_rules.proofs.GrowthTyping.{holds_more}
use Rattle.ac_rules.proofs.ListLaws.{found_passes}
use Rattle.ac_rules.proofs.PacketNames.{packet_no_clash}
use Rattle.ac_rules.proofs.RoundTrip.{round_trip}
use Rattle.ac_rules.proofs.Rules.{map_some}
use Rattle.ac_rules.proofs.Spoken.{value_speaks}
use Rattle.ac_rules.proofs.ValueThere.{roots, formed}
use Rattle.ac_meaning.specs.Worlds.{Exception}
use Rattle.ac_meaning.specs.Packing.{unmarshal_failure_exn, resolve_failure_exn, import_name, of_cause, Landing, Sinks, admitted}

not_there : (o : Option ℕ) → not (is_some o) ≡ true → o ≡ None
not_there None h = refl
not_there (Some i) h = absurd (true≢false (sym h))

module _ (E F : Environment) (g : Grows E F) (m : ℕ) (T : Typ) (v : PValue) (packable : IsPackable E T v) where
  abbrev p : Packet
  p = packet_for E m T v

  later : IsPackable F T v
  later = record {
    value_holds = holds_more Coloured false E F g.extends v T packable.type_known packable.value_holds;
    type_known = known_more E F g.extends T packable.type_known;
    type_fits = packable.type_fits;
    type_small = packable.type_small;
    value_fits = packable.value_fits;
    small_types = packable.small_types;
  }

  same : packet_for F m T v ≡ p
  same = packet_same E F g.extends m T v packable.type_known (value_speaks Coloured E v T (value_still v packable.value_fits) packable.value_holds)

  well_formed : ill_formed sha256 p.defs ≡ None
  well_formed = subst (λ (q : Packet). ill_formed sha256 q.defs ≡ None) same (formed F g.after m T v later)

  no_clash : clash sha256 F p.defs ≡ None
  no_clash = subst (λ (q : Packet). clash sha256 F q.defs ≡ None) same (packet_no_clash F g.after m T v (roots F g.after m T v later))

  excused : IsExcused (cause sha256 F p T)
  excused = subst (λ q. IsExcused (cause sha256 F q T)) same (round_trip F g.after m T v later)

  own_type : wrong_type sha256 p T ≡ None
  own_type = ap (λ b. given (not b) (Some WrongType)) (same_refl T)

  abbrev IsFull : Type 0
  IsFull = most_entries < length (places sha256 F p.defs).0

  record HasNoLink (k : ℕ) : Type 0 where
    import' : Import
    among : slice_get p.defs k ≡ Some (AnImport import')
    no_link : linked F import' InPacket ≡ None

  abbrev Why : PacketCause → Type 0
  Why c = ((n : ℕ) × (Full n ≡ c) × IsFull) ⊎ ((k : ℕ) × (Unresolved k ≡ c) × HasNoLink k)

  full : (b : Bool) (n : ℕ) (c : PacketCause) → nat_lt most_entries (length (places sha256 F p.defs).0) ≡ b → given b (Some (Full n)) ≡ Some c → Why c
  full true n c h e = inl (n, some_eq e, ltb-true most_entries (length (places sha256 F p.defs).0) h)
  full false n c h e = absurd (none≢some e)

  unlinked : (d : Def) → not (is_resolved sha256 F d) ≡ true → (i : Import) × (d ≡ AnImport i) × (linked F i InPacket ≡ None)
  unlinked (AModule x) h = absurd (true≢false (sym h))
  unlinked (AnImport i) h = (i, refl, not_there (linked F i InPacket) h)
  unlinked (AMark t) h = absurd (true≢false (sym h))

  no_link : (c : PacketCause) → unresolved sha256 F p.defs ≡ Some c → Why c
  no_link c e =
      let q = map_some Unresolved (first_failing (is_resolved sha256 F) p.defs) c e in
      let r = found_passes (λ d. not (is_resolved sha256 F d)) p.defs q.0 q.1 in
      let u = unlinked r.0 r.2 in
      inr (q.0, q.2, record { import' = u.0; among = r.1 ∙ ap Some u.1; no_link = u.2 })

  no_other : (b : Bool) (c : PacketCause) → IsExcused (Some c) → option_or (given b (Some NoValue)) None ≡ Some c → ⊥
  no_other true c x e = subst (λ z. IsExcused (Some z)) (sym (some_eq e)) x
  no_other false c x e = none≢some e

  by_two : (a b : Option PacketCause) (c : PacketCause) → IsExcused (Some c) → too_many sha256 F p.defs ≡ a → unresolved sha256 F p.defs ≡ b → option_or a (option_or b (option_or (wrong_type sha256 p T) (option_or (no_value sha256 F p T) None))) ≡ Some c → Why c
  by_two (Some a) b c x r s e = full (nat_lt most_entries (length (places sha256 F p.defs).0)) (length (places sha256 F p.defs).0) c refl (r ∙ e)
  by_two None (Some b) c x r s e = no_link c (s ∙ e)
  by_two None None c x r s e =
      absurd (no_other (not (is_value sha256 F p T)) c x (sym (ap (λ o. option_or o (option_or (no_value sha256 F p T) None)) own_type) ∙ e))

  why : (c : PacketCause) → cause sha256 F p T ≡ Some c → Why c
  why c e =
      let rest : Option PacketCause = option_or (too_many sha256 F p.defs) (option_or (unresolved sha256 F p.defs) (option_or (wrong_type sha256 p T) (option_or (no_value sha256 F p T) None))) in
      by_two (too_many sha256 F p.defs) (unresolved sha256 F p.defs) c (subst IsExcused e excused) refl refl
      (sym (ap (λ o. option_or o (option_or (clash sha256 F p.defs) rest)) well_formed ∙ ap (λ o. option_or o rest) no_clash) ∙ e)

  -- the exception tells it
  abbrev pub IsRefusedSo : Exception → Type 0
  IsRefusedSo x = (IsFull × (x ≡ unmarshal_failure_exn (codes "full"))) ⊎ ((k : ℕ) × (i : Import) × (slice_get p.defs k ≡ Some (AnImport i)) × (linked F i InPacket ≡ None) × (x ≡ resolve_failure_exn i.name))

  tells : (c : PacketCause) (x : Exception) → Why c → of_cause p.defs c ≡ x → IsRefusedSo x
  tells c x (inl h) e = inl (h.2, sym e ∙ ap (of_cause p.defs) (sym h.1))
  tells c x (inr h) e =
      let l = h.2 in
      inr (h.0, l.import', l.among, l.no_link, sym e ∙ ap (of_cause p.defs) (sym h.1) ∙ ap (λ o. resolve_failure_exn (unwrap_or (option_map import_name o) [])) l.among)

  by_cause : (x : Exception) (o : Option PacketCause) → cause sha256 F p T ≡ o → admitted F p o ≡ Sinks x → IsRefusedSo x
  by_cause x (Some c) e h = let q : of_cause p.defs c ≡ x = cc in tells c x (why c e) q
  by_cause x None e h = absurd cc

  pub refused : (x : Exception) → admitted F p (cause sha256 F p T) ≡ Sinks x → IsRefusedSo x
  refused x h = by_cause x (cause sha256 F p T) refl h
