-- What marshal gives where its packet has a table of types: the string spells the packet of the value. And a type within a part belongs to the part's head, as far as the first fault goes.
use Rattle.std.proofs.Common.{◌≡◌, refl, sym, ap, subst, ◌∙◌, ℕ, ◌+◌, ◌<◌, ◌≤◌, Bool, true, false, List, [], ◌∷◌, ◌++◌, length, length-append, Option, Some, None}
use Rattle.std.specs.Prelude.{◌||◌, nat_lt, not, is_some, Contains}
use Rattle.std.specs.List.{list_all}
use Rattle.std.specs.Option.{option_or}
use Rattle.std.proofs.lemmas.Bool.Decides.{nat_tests}
use mathlib.Core.Bool.{true≢false}
use native.Mathlib.Omega.{arith}
use Rattle.sha2.specs.Sha256.{sha256}
use Rattle.ac_types.specs.Partial.{given, first_some}
use Rattle.ac_types.specs.Limits.{longest_tabled}
use Rattle.ac_types.specs.Types.{Bytes, Typ}
use Rattle.ac_terms.specs.Terms.{PValue}
use Rattle.ac_terms.specs.Defs.{Environment, Packet, signature_at}
use Rattle.ac_terms.specs.Spelling.{two_written}
use Rattle.ac_terms.specs.Nesting.{value_nesting}
use Rattle.ac_terms.specs.Bounds.{nests_little, fits_packet}
use Rattle.ac_terms.specs.HeadsBy.{Head, next_head, type_heads, value_heads}
use Rattle.ac_terms.specs.Tables.{type_places, numbered, in_full, tabled_bytes, SpellsByTable}
use Rattle.ac_terms.proofs.HeadLawsBy.{value_deep}
use Rattle.ac_terms.proofs.HeadsAlike.{Shape, shapes, packed_alike}
use Rattle.ac_terms.proofs.TestLaws.{lt_true, lt_is, not_false}
use Rattle.ac_rules.specs.Coherent.{IsCoherent}
use Rattle.ac_rules.specs.Needed.{mark_at, needed_by, roots_of, packet_for}
use Rattle.ac_rules.specs.Packets.{cause}
use Rattle.ac_rules.specs.RoundTrip.{IsPackable, IsExcused}
use Rattle.ac_rules.specs.Faults.{Fault, Depth, Function, Size, part_fault, first_fault, AString}
use Rattle.ac_rules.specs.TabledFaults.{as_number, numbered_heads, whole_tabled_fault, whole_tabled, behind_tabled, cut_at_tabled, marshalled_tabled}
use Rattle.ac_rules.proofs.Rules.{given_none}
use Rattle.ac_rules.proofs.FaultLaws.{both_none, not_more, none_fails, no_string≢a_string}
use Rattle.ac_rules.proofs.PacketNames.{there}
use Rattle.ac_rules.proofs.PacketFits.{AreFit, packet_fits}
use Rattle.ac_rules.proofs.NeededEarly.{needed_members}
use Rattle.ac_rules.proofs.NeededKinds.{HasSig, kind_of, is_there, need_shows}
use Rattle.ac_rules.proofs.ValueThere.{root_shows}
use Rattle.ac_rules.proofs.RoundTrip.{round_trip}

-- what is given: the mark is there, everything nests little, and the string is the packet's bytes with a table, no more than such a packet may have, with no more of types than its places may have
pub record IsGivenTabled (E : Environment) (mark : Bytes) (T : Typ) (v : PValue) (s : Bytes) : Type 0 where
  pub at : ℕ
  pub marked : mark_at E mark ≡ Some at
  pub nests : value_nesting v ≤ 500
  pub defs_nest : list_all nests_little (packet_for E at T v).defs ≡ true
  pub spelled : s ≡ tabled_bytes (packet_for E at T v)
  pub short : length s ≤ longest_tabled
  pub spread : in_full (type_places (packet_for E at T v)) ≤ longest_tabled

neither : (a b : Bool) → (a || b) ≡ false → (a ≡ false) × (b ≡ false)
neither true b e = absurd (true≢false e)
neither false b e = (refl, e)

whole_gives : (p : Packet) (s : Bytes) → whole_tabled p (whole_tabled_fault p) ≡ AString s →
    (list_all nests_little p.defs ≡ true) × (s ≡ tabled_bytes p) × (length s ≤ longest_tabled) × (in_full (type_places p) ≤ longest_tabled)
whole_gives p s e = by (whole_tabled_fault p) refl e
  where
    by : (o : Option Fault) → whole_tabled_fault p ≡ o → whole_tabled p o ≡ AString s → (list_all nests_little p.defs ≡ true) × (s ≡ tabled_bytes p) × (length s ≤ longest_tabled) × (in_full (type_places p) ≤ longest_tabled)
    by (Some f) q h = absurd (no_string≢a_string h)
    by None q h =
        let long : Bool = nat_lt longest_tabled (length (tabled_bytes p)) in
        let wide : Bool = nat_lt longest_tabled (in_full (type_places p)) in
        let a = both_none (given (not (list_all nests_little p.defs)) (Some Depth)) _ q in
        let b = both_none (given (long || wide) (Some Size)) None a.1 in
        let n = neither long wide (given_none (long || wide) Size b.0) in
        let same : s ≡ tabled_bytes p = cc in (
          not_false (list_all nests_little p.defs) (given_none (not (list_all nests_little p.defs)) Depth a.0),
          same,
          subst (λ x. length x ≤ longest_tabled) (sym same) (not_more (length (tabled_bytes p)) longest_tabled n.0),
          not_more (in_full (type_places p)) longest_tabled n.1,
        )

pub gives_tabled : (E : Environment) (mark : Bytes) (T : Typ) (v : PValue) (s : Bytes) → marshalled_tabled E mark T v ≡ AString s → IsGivenTabled E mark T v s
gives_tabled E mark T v s e = by_mark (mark_at E mark) refl e
  where
    by_parts : (m : ℕ) → mark_at E mark ≡ Some m → (o : Option Fault) → first_fault 500 longest_tabled 0 (numbered_heads T v) ≡ o → behind_tabled E m T v o ≡ AString s → IsGivenTabled E mark T v s
    by_parts m q (Some f) r h = absurd (no_string≢a_string h)
    by_parts m q None r h =
        let fine = none_fails 500 longest_tabled 0 (numbered_heads T v) r in
        let w = whole_gives (packet_for E m T v) s h in
        let deep = value_deep as_number two_written 500 1 v fine.nests in
        record { at = m; marked = q; nests = omega (arith, deep); defs_nest = w.0; spelled = w.1; short = w.2; spread = w.3 }

    by_mark : (o : Option ℕ) → mark_at E mark ≡ o → cut_at_tabled E T v o ≡ AString s → IsGivenTabled E mark T v s
    by_mark None q h = absurd (no_string≢a_string h)
    by_mark (Some m) q h = by_parts m q (first_fault 500 longest_tabled 0 (numbered_heads T v)) refl h

-- the packet of a value is within the bounds where it nests little
pub packet_within : (E : Environment) → IsCoherent E → (mark : ℕ) (T : Typ) (v : PValue) → IsPackable E T v → list_all nests_little (packet_for E mark T v).defs ≡ true → value_nesting v ≤ 500 → fits_packet (packet_for E mark T v) ≡ true
packet_within E coherent mark T v packable nests deep =
    let fit : AreFit T v = record { type_fits = packable.type_fits; type_small = packable.type_small; value_within = packable.value_fits; types_small = packable.small_types } in
    let shows : (i : ℕ) → Contains (roots_of E T v) i → is_some (signature_at E i) ≡ true = root_shows E coherent 0 T v packable in
    let entries : (i : ℕ) → Contains (roots_of E T v) i → i < length E = λ i c. is_there E i (shows i c) in
    let needs : (i : ℕ) → Contains (needed_by E mark (roots_of E T v)) i → HasSig E i =
    λ i c. need_shows E coherent mark (roots_of E T v) shows i ((needed_members E coherent mark (roots_of E T v) entries i).0 c) in
    packet_fits E coherent mark T v fit (there E coherent mark T v entries) (λ i x c q. kind_of E i x q (needs i c)) nests deep

-- the string that marshal gives spells the packet with a table; it is accepted where it was made, or refused for want of room or of a link alone
pub tabled_round_trip : (E : Environment) (mark : Bytes) (T : Typ) (v : PValue) (s : Bytes) → IsCoherent E → IsPackable E T v → marshalled_tabled E mark T v ≡ AString s →
    (m : ℕ) × (mark_at E mark ≡ Some m) × SpellsByTable s (packet_for E m T v) × IsExcused (cause sha256 E (packet_for E m T v) T)
tabled_round_trip E mark T v s coherent packable e =
    let g = gives_tabled E mark T v s e in (
      g.at,
      g.marked,
      record { fits = packet_within E coherent g.at T v packable g.defs_nest g.nests; spelled = g.spelled; short = g.short; spread = g.spread },
      round_trip E coherent g.at T v packable,
    )

-- A type within a part: as a head of its own, or with the head of the part.
not_deep : (k : ℕ) → nat_lt k 0 ≡ false
not_deep k = grind (arith, nat_tests)

more_passes : (m n l : ℕ) → nat_lt m n ≡ true → nat_lt m (n + l) ≡ true
more_passes m n l e = let h = lt_true m n e in lt_is m (n + l) (omega (arith, h))

abbrev step_fault : Bool → Bool → Option Fault → Option Fault
step_fault deep long rest = option_or (option_or (given deep (Some Depth)) (option_or (given long (Some Size)) None)) rest

one_or_two : (d a z : Bool) (rest : Option Fault) → (a ≡ true → z ≡ true) → step_fault d z rest ≡ step_fault d a (step_fault false z rest)
one_or_two true a z rest h = refl
one_or_two false true z rest h = ap (λ x. step_fault false x rest) (h refl)
one_or_two false false z rest h = refl

pub type_in_head : (k m n d : ℕ) (bs cs : Bytes) (hs : List Head) →
    first_fault k m n (next_head d (bs ++ cs) ∷ hs) ≡ first_fault k m n (next_head d bs ∷ next_head 0 cs ∷ hs)
type_in_head k m n d bs cs hs =
    let z : ℕ = n + length bs + length cs in
    let ends : n + length (bs ++ cs) ≡ z = omega (arith, length-append bs cs) in
    ap (λ x. step_fault (nat_lt k d) (nat_lt m x) (first_fault k m x hs)) ends ∙
    one_or_two (nat_lt k d) (nat_lt m (n + length bs)) (nat_lt m z) (first_fault k m z hs) (more_passes m (n + length bs) (length cs)) ∙
    ap (λ x. step_fault (nat_lt k d) (nat_lt m (n + length bs)) (step_fault x (nat_lt m z) (first_fault k m z hs))) (sym (not_deep k))

-- whatever the numbers are, the first fault is that of types counted as four bytes
abbrev fault_of : ℕ → ℕ → ℕ → List Shape → Option Fault
fault_of k m n [] = None
fault_of k m n (s ∷ ss) =
    option_or (first_some (given (nat_lt k s.0.0) (Some Depth) ∷ given (not s.0.1) (Some Function) ∷ given (nat_lt m (n + s.1)) (Some Size) ∷ [])) (fault_of k m (n + s.1) ss)

by_shape : (k m n : ℕ) (hs : List Head) → first_fault k m n hs ≡ fault_of k m n (shapes hs)
by_shape k m n [] = refl
by_shape k m n (h ∷ hs) = ap (option_or (part_fault k m (n + length h.bytes) h)) (by_shape k m (n + length h.bytes) hs)

pub numbers_alike : (table : List Typ) (k m n : ℕ) (T : Typ) (v : PValue) →
    first_fault k m n (type_heads (numbered table) T ++ value_heads (numbered table) two_written 1 v) ≡ first_fault k m n (numbered_heads T v)
numbers_alike table k m n T v =
    by_shape k m n (type_heads (numbered table) T ++ value_heads (numbered table) two_written 1 v) ∙
    ap (fault_of k m n) (packed_alike (numbered table) as_number (λ U. refl) two_written T v) ∙ sym (by_shape k m n (numbered_heads T v))
