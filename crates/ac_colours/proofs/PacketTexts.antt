-- The definitions of a packet by themselves: each has the name of an entry where it was packed, and its text, where it has one.
use Rattle.std.proofs.Common.{◌≡◌, refl, sym, ap, ◌∙◌, subst, ℕ, ◌<◌, true, List, [], length, append-nil, ◌⊎◌, inl, inr, Option, Some, None}
use Rattle.std.specs.Prelude.{Contains, slice_get, option_map, option_and_then}
use Rattle.sha2.specs.Sha256.{sha256}
use Rattle.ac_types.proofs.FirstLaws.{none≢some}
use Rattle.ac_types.specs.Types.{Bytes, Typ}
use Rattle.ac_terms.specs.Terms.{PValue}
use Rattle.ac_terms.specs.Defs.{Environment, Entry, name_at}
use Rattle.ac_terms.specs.Names.{text_of_def, text_of_entry}
use Rattle.ac_terms.specs.Renumbered.{def_renumbered}
use Rattle.ac_rules.specs.Needed.{packet_form, uses, rise_from, place_in, roots_of, needed_by, packet_for}
use Rattle.ac_rules.specs.Packets.{alone}
use Rattle.ac_rules.specs.Coherent.{IsCoherent}
use Rattle.ac_rules.proofs.AloneNames.{AllThere, shadow, named_by}
use Rattle.ac_rules.proofs.NoClash.{shadow_get, text_kept}
use Rattle.ac_rules.proofs.PacketNames.{needed_rise, there, closed, packet_alone}

module _ (E : Environment) (coherent : IsCoherent E) (mark : ℕ) (T : Typ) (v : PValue) (roots : (i : ℕ) → Contains (roots_of E T v) i → i < length E) where
  abbrev is : List ℕ
  is = needed_by E mark (roots_of E T v)

  abbrev f : ℕ → ℕ
  f = place_in is

  abbrev A : Environment
  A = shadow E mark f is

  rises : rise_from 0 is ≡ true
  rises = needed_rise E coherent mark (length E) (roots_of E T v)

  all_there : AllThere E is
  all_there = there E coherent mark T v roots

  is_closed : (i j : ℕ) → Contains is i → Contains (uses E mark i) j → Contains is j
  is_closed = closed E coherent mark T v roots

  -- a needed entry has its name in the packet
  shadow_named : (j : ℕ) → Contains is j → name_at A (f j) ≡ name_at E j
  shadow_named j c = named_by E coherent mark is rises all_there is_closed is [] (sym (append-nil is)) j c

  shadow_text : (k : ℕ) (n t : Bytes) → name_at A k ≡ Some n → text_of_entry A k ≡ Some t → (i : ℕ) × (name_at E i ≡ Some n) × (text_of_entry E i ≡ Some t)
  shadow_text k n t a b = by (slice_get A k) refl
    where
      by : (o : Option Entry) → slice_get A k ≡ o → (i : ℕ) × (name_at E i ≡ Some n) × (text_of_entry E i ≡ Some t)
      by None g = absurd (none≢some (sym (ap (option_and_then (λ (x : Entry). x.name)) g) ∙ a))
      by (Some y) g =
          let r = shadow_get E coherent mark is rises all_there is_closed is k y g in
          let e = r.2.0 in
          let text : text_of_entry A k ≡ text_of_def A (def_renumbered f (packet_form mark r.0 e)) = ap (λ o. option_and_then (text_of_def A) (option_map (λ (x : Entry). x.def) o)) (g ∙ ap Some r.2.2) in (
            r.0,
            ap (option_and_then (λ (x : Entry). x.name)) r.2.1 ∙ sym (ap (λ (x : Entry). x.name) r.2.2) ∙ sym (ap (option_and_then (λ (x : Entry). x.name)) g) ∙ a,
            of (text_kept E coherent mark is rises all_there is_closed r.0 e r.1 r.2.1) (sym text ∙ b),
          )
        where
          of : {o p : Option Bytes} → (o ≡ p) ⊎ (o ≡ None) → o ≡ Some t → p ≡ Some t
          of (inl q) h = sym q ∙ h
          of (inr q) h = absurd (none≢some (sym q ∙ h))

  pub packet_text : (k : ℕ) (n t : Bytes) → name_at (alone sha256 (packet_for E mark T v).defs) k ≡ Some n → text_of_entry (alone sha256 (packet_for E mark T v).defs) k ≡ Some t → (i : ℕ) × (name_at E i ≡ Some n) × (text_of_entry E i ≡ Some t)
  packet_text k n t a b =
      let same = packet_alone E coherent mark T v roots in
      shadow_text k n t (subst (λ X. name_at X k ≡ Some n) same a) (subst (λ X. text_of_entry X k ≡ Some t) same b)

  pub packet_named : (j : ℕ) → Contains is j → name_at (alone sha256 (packet_for E mark T v).defs) (f j) ≡ name_at E j
  packet_named j c = subst (λ X. name_at X (f j) ≡ name_at E j) (sym (packet_alone E coherent mark T v roots)) (shadow_named j c)
