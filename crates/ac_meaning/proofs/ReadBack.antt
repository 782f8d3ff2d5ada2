-- A string that marshal gives of what can be packed is, as the same type, landed by unmarshal, or refused as full or for want of a link.
use Rattle.std.proofs.Common.{◌≡◌, refl, sym, subst, inl, inr, Option, Some, None}
use Rattle.std.specs.Prelude.{false}
use Rattle.sha2.specs.Sha256.{sha256}
use Rattle.ac_types.specs.Types.{Bytes, Typ}
use Rattle.ac_terms.specs.Terms.{PValue}
use Rattle.ac_terms.specs.Defs.{Environment, Packet}
use Rattle.ac_terms.proofs.SpelledLaws.{spelled_is_read}
use Rattle.ac_rules.specs.Views.{Coloured}
use Rattle.ac_rules.specs.Needed.{packet_for}
use Rattle.ac_rules.specs.Packets.{PacketCause, Definition, Clash, Full, Unresolved, WrongType, NoValue, cause}
use Rattle.ac_rules.specs.Faults.{Marshalled, NoString, AString, marshalled}
use Rattle.ac_rules.specs.RoundTrip.{IsPackable, IsExcused}
use Rattle.ac_rules.proofs.RoundTrip.{marshal_round_trip, round_trip}
use Rattle.ac_rules.specs.Growth.{Grows}
use Rattle.ac_rules.proofs.Growth.{known_more}
use Rattle.ac_rules.proofs.GrowthTyping.{holds_more}
use Rattle.ac_rules.proofs.GrowthNeeded.{packet_same}
use Rattle.ac_rules.proofs.Spoken.{value_speaks}
use Rattle.ac_rules.proofs.Composed.{value_still}
use Rattle.ac_meaning.specs.Packing.{Packs, answer, admitted, received, landing}
use Rattle.ac_meaning.specs.ReadBack.{IsReadBack}
use Rattle.ac_meaning.proofs.PackedHolds.{packable}

excused_lands : (E : Environment) (p : Packet) (o : Option PacketCause) → IsExcused o → IsReadBack (admitted E p o)
excused_lands E p None h = tt
excused_lands E p (Some (Full n)) h = inl refl
excused_lands E p (Some (Unresolved i)) h = inr (_, refl)
excused_lands E p (Some (Definition i)) h = absurd h
excused_lands E p (Some (Clash i j)) h = absurd h
excused_lands E p (Some WrongType) h = absurd h
excused_lands E p (Some NoValue) h = absurd h

pub a_string : (m : Marshalled) (s : Bytes) → answer m ≡ Packs s → m ≡ AString s
a_string (AString r) s e = cc
a_string (NoString f) s e = absurd cc

-- over the same definitions, and all that have come since
pub read_back_later : (E F : Environment) → Grows E F → (mark : Bytes) (T : Typ) (v : PValue) (s : Bytes) → IsPackable E T v → marshalled E mark T v ≡ AString s → IsReadBack (landing F T s)
unfolding landing
read_back_later E F g mark T v s packable given_string =
    let r = marshal_round_trip E mark T v s g.extends.before packable given_string in
    let p : Packet = packet_for E r.0 T v in
    let later : IsPackable F T v =
    record {
      value_holds = holds_more Coloured false E F g.extends v T packable.type_known packable.value_holds;
      type_known = known_more E F g.extends T packable.type_known;
      type_fits = packable.type_fits;
      type_small = packable.type_small;
      value_fits = packable.value_fits;
      small_types = packable.small_types;
    } in
    let same : packet_for F r.0 T v ≡ p = packet_same E F g.extends r.0 T v packable.type_known (value_speaks Coloured E v T (value_still v packable.value_fits) packable.value_holds) in
    subst (λ o. IsReadBack (received F T o)) (sym (spelled_is_read s p r.2)) (excused_lands F p (cause sha256 F p T) (subst (λ q. IsExcused (cause sha256 F q T)) same (round_trip F g.after r.0 T v later)))
