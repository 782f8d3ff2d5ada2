-- What a whole walk has written.
use Rattle.std.proofs.Common.{◌≡◌, refl, sym, ap, ap₂, ◌∙◌, ℕ, List, [], ◌∷◌, ◌++◌, append-nil, Option, Some, None, Result, Ok, Err}
use Rattle.std.specs.Prelude.{MatchResult}
use Rattle.ac_types.specs.Limits.{longest_packet}
use Rattle.ac_types.specs.Types.{Bytes, Typ}
use Rattle.ac_terms.specs.Terms.{PValue}
use Rattle.ac_terms.specs.Defs.{Environment}
use Rattle.ac_terms.specs.Heads.{Head, packed_heads}
use Rattle.ac_terms.specs.Parts.{Portion, OfType}
use Rattle.ac_terms.specs.Spelling.{two_written, type_bytes, value_bytes}
use Rattle.ac_terms.specs.Renumbered.{value_renumbered}
use Rattle.ac_rules.specs.Faults.{Fault, first_fault}
use Rattle.ac_pack_heads.specs.Outcomes.{WalkEnd, On, Stopped, walk_end, fault_in}
use Rattle.ac_pack_heads.specs.declared.stop.Stop.{Stop}
use Rattle.ac_pack_heads.proofs.FaultLaws.{outcome, written}
use Rattle.ac_pack_terms.specs.Pieces.{heads_at, roots_at}
use Rattle.ac_pack_terms.specs.Spoken.{spoken_by, spoken_by_all}
use Rattle.ac_pack_terms.specs.inner.Goes.{pending, comes, Visits}
use Rattle.ac_pack_terms.specs.declared.piece.PackContext.{PackContext}
use Rattle.ac_pack_terms.specs.declared.piece.Piece.{Piece}
use Rattle.ac_pack_terms.specs.declared.walk.Walk.{Walk}
use Rattle.ac_pack_values.specs.declared.written.Written.{Written}

on_outcome : (o : Option Fault) (bs cs : Bytes) → outcome o bs ≡ On cs → (o ≡ None) × (cs ≡ bs)
on_outcome None bs cs e = (refl, cc)
on_outcome (Some f) bs cs e = absurd cc

stopped_outcome : (o : Option Fault) (bs : Bytes) (f : Fault) → outcome o bs ≡ Stopped f → o ≡ Some f
stopped_outcome None bs f e = absurd cc
stopped_outcome (Some g) bs f e = cc

-- a step of the walk, from where the first one began
pub goes_on : (u : Unit) (p : Piece) (first old mid new : Walk) → comes [] [] old ≡ comes [] [] first → mid.site ≡ old.site → comes [] [] old ≡ comes (heads_at old.site p) (roots_at old.site p) mid →
    Visits (Ok u) (heads_at mid.site p) (roots_at mid.site p) mid new → (new.site ≡ old.site) × (comes [] [] new ≡ comes [] [] first)
unfolding Visits
goes_on u p first old mid new i s n v = (v.0 ∙ s, v.1 ∙ ap (λ x. comes (heads_at x p) (roots_at x p) mid) s ∙ sym n ∙ i)

pub stops_at : (e : Stop) (p : Piece) (first old mid new : Walk) → comes [] [] old ≡ comes [] [] first → mid.site ≡ old.site → comes [] [] old ≡ comes (heads_at old.site p) (roots_at old.site p) mid →
    Visits (Err e) (heads_at mid.site p) (roots_at mid.site p) mid new → (f : Fault) → fault_in e ≡ Some f → (comes [] [] first).0 ≡ Stopped f
unfolding Visits
stops_at e p first old mid new i s n v f q =
    ap (λ (x : WalkEnd × List ℕ). x.0) (sym i ∙ n ∙ ap (λ x. comes (heads_at x p) (roots_at x p) mid) (sym s)) ∙ v f q (pending (heads_at mid.site) mid.pieces.items)

-- a walk that has nothing yet, and its first pieces
begun : (u : Unit) (hs : List Head) (ns : List ℕ) (old new : Walk) → old.text.0 ≡ [] → old.roots ≡ [] → old.pieces.items ≡ [] → Visits (Ok u) hs ns old new → comes [] [] new ≡ (walk_end [] hs, ns)
unfolding Visits
begun u hs ns old new t r p v =
    v.1
    ∙ ap₂ (λ (o : WalkEnd) (l : List ℕ). (o, l))
    (ap₂ (λ x y. walk_end x (hs ++ pending (heads_at old.site) y)) t p ∙ ap (walk_end []) (append-nil hs))
    (ap₂ (λ x y. x ++ (ns ++ pending (roots_at old.site) y)) r p ∙ append-nil ns)

not_begun : (e : Stop) (hs : List Head) (ns : List ℕ) (old new : Walk) → old.text.0 ≡ [] → Visits (Err e) hs ns old new → (f : Fault) → fault_in e ≡ Some f → walk_end [] hs ≡ Stopped f
unfolding Visits
not_begun e hs ns old new t v f q = ap (walk_end []) (sym (append-nil hs)) ∙ ap (λ x. walk_end x (hs ++ [])) (sym t) ∙ v f q []

pub site_kept : (u : Unit) (hs : List Head) (ns : List ℕ) (old new : Walk) → Visits (Ok u) hs ns old new → new.site ≡ old.site
unfolding Visits
site_kept u hs ns old new v = v.0

-- the first two pieces of a walk
pub both_begun : (u : Unit) (s : PackContext) (p q : Piece) (old new : Walk) → old.site ≡ s → old.text.0 ≡ [] → old.roots ≡ [] → old.pieces.items ≡ [] →
    Visits (Ok u) (heads_at old.site p ++ heads_at old.site q) (roots_at old.site p ++ roots_at old.site q) old new → comes [] [] new ≡ (walk_end [] (heads_at s p ++ heads_at s q), roots_at s p ++ roots_at s q)
both_begun u s p q old new e t r i v =
    begun u _ _ old new t r i v ∙ ap₂ (λ (hs : List Head) (ns : List ℕ). (walk_end [] hs, ns)) (ap (λ x. heads_at x p ++ heads_at x q) e) (ap (λ x. roots_at x p ++ roots_at x q) e)

pub both_not_begun : (x : Stop) (s : PackContext) (p q : Piece) (old new : Walk) → old.site ≡ s → old.text.0 ≡ [] → Visits (Err x) (heads_at old.site p ++ heads_at old.site q) (roots_at old.site p ++ roots_at old.site q) old new →
    (f : Fault) → fault_in x ≡ Some f → walk_end [] (heads_at s p ++ heads_at s q) ≡ Stopped f
both_not_begun x s p q old new e t v f z = ap (λ y. walk_end [] (heads_at y p ++ heads_at y q)) (sym e) ∙ not_begun x _ _ old new t v f z

pub ended : (hs : List Head) (ns ms : List ℕ) (bs : Bytes) (rs : List ℕ) (new : Walk) → comes [] [] new ≡ (walk_end [] hs, ns) → ns ≡ ms → comes [] [] new ≡ (On bs, rs) → (walk_end [] hs ≡ On bs) × (rs ≡ ms)
ended hs ns ms bs rs new e s r = (
  ap (λ (x : WalkEnd × List ℕ). x.0) (sym e ∙ r),
  ap (λ (x : WalkEnd × List ℕ). x.1) (sym r ∙ e) ∙ s,
)

pub stopped : (hs : List Head) (ns : List ℕ) (f : Fault) (new : Walk) → comes [] [] new ≡ (walk_end [] hs, ns) → (comes [] [] new).0 ≡ Stopped f → walk_end [] hs ≡ Stopped f
stopped hs ns f new e s = ap (λ (x : WalkEnd × List ℕ). x.0) (sym e) ∙ s

-- a type, and then other parts
pub type_first : (E : Environment) (T : Typ) (ps : List Portion) → spoken_by_all E (OfType T ∷ []) ++ spoken_by_all E ps ≡ spoken_by_all E (OfType T ∷ ps)
type_first E T ps = ap (λ ns. ns ++ spoken_by_all E ps) (append-nil (spoken_by E (OfType T)))

-- the whole: its bytes, or its first fault, which is the same whatever numbers are written
pub all_written : (f : ℕ → ℕ) (T : Typ) (v : PValue) (ns : List ℕ) (r : Result Written Stop) →
    MatchResult r (λ w. (walk_end [] (packed_heads T (value_renumbered f v)) ≡ On w.text.0) × (w.roots ≡ ns)) (λ e. (x : Fault) → fault_in e ≡ Some x → walk_end [] (packed_heads T (value_renumbered f v)) ≡ Stopped x) →
    MatchResult r (λ w. (first_fault 500 longest_packet 0 (packed_heads T v) ≡ None) × (w.text.0 ≡ type_bytes T ++ value_bytes two_written (value_renumbered f v)) × (w.roots ≡ ns))
    (λ e. (x : Fault) → fault_in e ≡ Some x → first_fault 500 longest_packet 0 (packed_heads T v) ≡ Some x)
all_written f T v ns (Ok w) h =
    let p = on_outcome (first_fault 500 longest_packet 0 (packed_heads T v)) (type_bytes T ++ value_bytes two_written (value_renumbered f v)) w.text.0 (sym (written f T v) ∙ h.0) in
    (p.0, p.1, h.1)
all_written f T v ns (Err e) h =
    λ x q. stopped_outcome (first_fault 500 longest_packet 0 (packed_heads T v)) (type_bytes T ++ value_bytes two_written (value_renumbered f v)) x (sym (written f T v) ∙ h x q)

pub ruleset written_laws = (append-nil)
