-- What is read of the string of a value is a copy of the value.
use Rattle.std.proofs.Common.{◌≡◌, refl, sym, ap, ◌∙◌, subst, subst₂, ℕ, ◌<◌, false, length, Option, Some, None}
use Rattle.std.specs.Prelude.{slice_get}
use Rattle.sha2.specs.Sha256.{sha256}
use Rattle.ac_types.specs.Types.{Bytes, Typ, has_function}
use Rattle.ac_terms.specs.Terms.{Home, Str, PValue, Value}
use Rattle.ac_terms.specs.Defs.{Environment, Entry, Packet, def_of, name_at}
use Rattle.ac_terms.specs.Names.{text_of_def, text_of_entry}
use Rattle.ac_terms.specs.Bounds.{Spells}
use Rattle.ac_terms.specs.Parts.{value_parts}
use Rattle.ac_terms.specs.Renumbered.{value_renumbered}
use Rattle.ac_terms.proofs.SpelledLaws.{spelled_is_read}
use Rattle.ac_rules.specs.Views.{Mode, view, bare}
use Rattle.ac_rules.specs.Plain.{packed}
use Rattle.ac_rules.specs.Needed.{mark_at, needed_by, roots_of, place_in, packet_for}
use Rattle.ac_rules.specs.Packets.{PacketCause, placed_number, places, value_there, cause}
use Rattle.ac_rules.specs.Faults.{AString, marshalled}
use Rattle.ac_rules.specs.Coherent.{IsCoherent}
use Rattle.ac_rules.specs.RoundTrip.{IsPackable, IsExcused}
use Rattle.ac_rules.specs.Growth.{Grows}
use Rattle.ac_rules.proofs.Rules.{map_some, then_some}
use Rattle.ac_rules.proofs.ViewLaws.{within}
use Rattle.ac_rules.proofs.LookupLaws.{name_old}
use Rattle.ac_rules.proofs.Placing.{entry_text_old}
use Rattle.ac_rules.proofs.Composed.{value_twice}
use Rattle.ac_rules.proofs.Growth.{grows_on}
use Rattle.ac_rules.proofs.RoundTrip.{marshal_round_trip}
use Rattle.ac_meaning.specs.Worlds.{Exception, World, Made, with_crossing}
use Rattle.ac_meaning.specs.Acts.{Turns}
use Rattle.ac_meaning.specs.BareTerms.{BareValue, bare_value, unpacked}
use Rattle.ac_meaning.specs.Packing.{Packing, CannotPack, Packs, packing, packs, Landing, Sinks, Lands, admitted, received, landing, Brings, brought, arrival}
use Rattle.ac_meaning.specs.Rebuilding.{rebuilt}
use Rattle.ac_meaning.specs.ReadBack.{IsReadBack}
use Rattle.ac_meaning.proofs.Admitted.{grows, rebuilt_alike}
use Rattle.ac_meaning.proofs.ReadBack.{a_string}
use Rattle.ac_meaning.proofs.RebuiltBare.{rebuilt_bare}
use Rattle.ac_round_trip.specs.Copies.{HasNamesake, Copied}
use Rattle.ac_round_trip.specs.Strings.{IsString, number_over, BringsCopy}
use Rattle.ac_round_trip.proofs.FineParts.{AllFine}
use Rattle.ac_round_trip.proofs.Copying.{is_copied}
use Rattle.ac_round_trip.proofs.Numbers.{all_placed}
use Rattle.ac_round_trip.proofs.Refused.{refused}
use Rattle.ac_round_trip.proofs.Unpacked.{unpacked_packed}
use Rattle.ac_round_trip.proofs.NoParts.{no_numbers, no_parts}

-- a packed value with its string, and other definitions
module _ (E F : Environment) (before : IsCoherent E) (after : IsCoherent F) (mark : Bytes) (T : Typ) (v : PValue) (s : Bytes) (packable : IsPackable E T v) (made : marshalled E mark T v ≡ AString s) where
  pub found : (m : ℕ) × (mark_at E mark ≡ Some m) × Spells s (packet_for E m T v) × IsExcused (cause sha256 E (packet_for E m T v) T)
  found = marshal_round_trip E mark T v s before packable made

  abbrev pub p : Packet
  p = packet_for E found.0 T v

  abbrev pub number_of : ℕ → ℕ
  number_of j = placed_number (places sha256 F p.defs).1 (place_in (needed_by E found.0 (roots_of E T v)) j)

  -- the value over the definitions then
  pub record Landed (G : Environment) (u : PValue) : Type 0 where
    pub is_there : G ≡ (places sha256 F p.defs).0
    pub is_value : u ≡ value_renumbered number_of v
    pub fine : AllFine E G number_of (value_parts v)

  by_cause : (G : Environment) (u : PValue) (o : Option PacketCause) → cause sha256 F p T ≡ o → admitted F p o ≡ Lands G u → Landed G u
  by_cause G u (Some why) e h = absurd cc
  by_cause G u None e h =
      let a : (places sha256 F p.defs).0 ≡ G = cc in
      let b : value_there sha256 F p ≡ u = cc in
      subst₂ Landed a b (record {
        is_there = refl;
        is_value = value_twice (place_in (needed_by E found.0 (roots_of E T v))) (placed_number (places sha256 F p.defs).1) v;
        fine = all_placed E before found.0 T v packable F after found.2.fits e;
      })

  pub sinks : (x : Exception) → landing F T s ≡ Sinks x → admitted F p (cause sha256 F p T) ≡ Sinks x
  unfolding landing
  sinks x q = sym (ap (received F T) (spelled_is_read s p found.2)) ∙ q

  pub landed : (G : Environment) (u : PValue) → landing F T s ≡ Lands G u → Landed G u
  unfolding landing
  landed G u q = by_cause G u (cause sha256 F p T) refl (sym (ap (received F T) (spelled_is_read s p found.2)) ∙ q)

-- the string that a marshal step gives
packed_so : (z y : World) (p : Packing) (s : Bytes) → packs z p ≡ Turns y (Str s) → p ≡ Packs s
packed_so z y (CannotPack x) s e = absurd cc
packed_so z y (Packs r) s e = let q : r ≡ s = cc in ap Packs q

pub packing_of : {mode : Mode} {z : World} {c : Home} {T : Typ} {v : Value} {mark s : Bytes} → IsString mode z c T v mark s → packing z T mark (packed z.environment c v T) ≡ Packs s
packing_of {z = z} {c = c} {T = T} {v = v} {mark = mark} {s = s} h = packed_so z (with_crossing (Made s) z) (packing z T mark (packed z.environment c v T)) s h.gives

pub made_of : {mode : Mode} {z : World} {c : Home} {T : Typ} {v : Value} {mark s : Bytes} → IsString mode z c T v mark s → marshalled z.environment mark T (packed z.environment c v T) ≡ AString s
unfolding packing
made_of {z = z} {c = c} {T = T} {v = v} {mark = mark} {s = s} h = a_string (marshalled z.environment mark T (packed z.environment c v T)) s (packing_of h)

module _ (from : Mode) (z : World) (c : Home) (T : Typ) (v : Value) (mark s : Bytes) (h : IsString from z c T v mark s) (y : World) (d : Home) where
  abbrev E : Environment
  E = z.environment

  abbrev w : PValue
  w = packed E c v T

  abbrev mark_number : Grows E y.environment → ℕ
  mark_number later = (found E y.environment h.coherent later.after mark T w s h.packable (made_of h)).0

  -- what lands, and from there what is brought
  lands_so : (after : IsCoherent y.environment) (G : Environment) (u : PValue) → landing y.environment T s ≡ Lands G u → Landed E y.environment h.coherent after mark T w s h.packable (made_of h) G u
  lands_so after G u q = landed E y.environment h.coherent after mark T w s h.packable (made_of h) G u q

  brings : (later : Grows E y.environment) (l : Landing) → landing y.environment T s ≡ l → BringsCopy E (mark_number later) c T v y.environment d (brought d T l)
  brings later (Sinks x) q = refused E y.environment later (mark_number later) T w h.packable x (sinks E y.environment h.coherent later.after mark T w s h.packable (made_of h) x q)
  brings later (Lands G u) q =
      let l = lands_so later.after G u q in
      let g : Grows E G = grows_on E y.environment G later (grows y.environment T s G u later.after q) in (
        g,
        l.is_there,
        λ mode. (
          subst (λ x. Copied mode E G (number_over E (mark_number later) c T v y.environment) c v d T (rebuilt mode G d T x)) (sym l.is_value)
              (is_copied from mode E G g.extends (number_over E (mark_number later) c T v y.environment) v c d T (view from E c T) h.packable.type_known h.typed h.packable.value_holds h.packable.value_fits l.fine),
          rebuilt_bare mode G u d T,
        ),
      )

  brings_there : (later : Grows E y.environment) → BringsCopy E (mark_number later) c T v y.environment d (arrival y d T s)
  brings_there later = brings later (landing y.environment T s) refl

pub brings_copy : (from : Mode) (z : World) (c : Home) (T : Typ) (v : Value) (mark s : Bytes) → IsString from z c T v mark s → (y : World) → Grows z.environment y.environment →
    (m : ℕ) × (mark_at z.environment mark ≡ Some m) × ((d : Home) → BringsCopy z.environment m c T v y.environment d (arrival y d T s))
brings_copy from z c T v mark s h y later = (mark_found.0, mark_found.1, λ d. brings_there from z c T v mark s h y d later)
  where
    mark_found : (m : ℕ) × (mark_at z.environment mark ≡ Some m) × Spells s (packet_for z.environment m T (packed z.environment c v T)) × IsExcused (cause sha256 z.environment (packet_for z.environment m T (packed z.environment c v T)) T)
    mark_found = found z.environment y.environment h.coherent later.after mark T (packed z.environment c v T) s h.packable (made_of h)

-- of a type without functions it is without brackets the value itself, in every program
pub first_order : (from : Mode) (z : World) (c : Home) (T : Typ) (v : Value) (mark s : Bytes) → IsString from z c T v mark s → has_function (bare z.environment T) ≡ false → (y : World) → IsCoherent y.environment →
    (d : Home) (F : Environment) (copy : Mode → Value) (w : BareValue) → arrival y d T s ≡ Brings F copy w → (w ≡ bare_value c v) × ((now : Mode) → bare_value d (copy now) ≡ bare_value c v)
first_order from z c T v mark s h flat y coherent d F copy w q = (same_there, λ now. rebuilt_alike now y d T s F copy w q ∙ same_there)
  where
    same : (u : PValue) (g : ℕ → ℕ) → u ≡ value_renumbered g (packed z.environment c v T) → unpacked u ≡ bare_value c v
    same u g e =
        ap unpacked (e ∙ no_numbers g (packed z.environment c v T) (no_parts z.environment h.coherent (packed z.environment c v T) T h.packable.type_known flat h.packable.value_holds)) ∙
        unpacked_packed z.environment v c T h.packable.value_fits

    by : (l : Landing) → landing y.environment T s ≡ l → brought d T l ≡ Brings F copy w → w ≡ bare_value c v
    by (Sinks o) p r = absurd cc
    by (Lands G u) p r =
        let e : unpacked u ≡ w = cc in
        let l = lands_so from z c T v mark s h y d coherent G u p in
        sym e ∙ same u (number_of z.environment y.environment h.coherent coherent mark T (packed z.environment c v T) s h.packable (made_of h)) l.is_value

    same_there : w ≡ bare_value c v
    same_there = by (landing y.environment T s) refl q

-- a definition's namesake among later definitions has its text
pub one_text : (E F : Environment) → Grows E F → (f : ℕ → ℕ) (j : ℕ) (a b : Bytes) → HasNamesake E F f j → text_of_entry E j ≡ Some a → text_of_entry F (f j) ≡ Some b → a ≡ b
one_text E F g f j a b h p q =
    let d = then_some (text_of_def E) (def_of E j) a p in
    let e = map_some (λ (x : Entry). x.def) (slice_get E j) d.0 d.1 in
    let lt : j < length E = within E j e.0 e.1 in
    let name : name_at F j ≡ Some h.0 = ap (λ X. name_at X j) g.extends.is_more ∙ name_old E g.extends.more j lt ∙ h.1 in
    let text : text_of_entry F j ≡ Some a = ap (λ X. text_of_entry X j) g.extends.is_more ∙ entry_text_old E g.extends.before g.extends.more j lt ∙ p in
    g.after.one_text j (f j) h.0 a b name h.2 text q
