-- What steps of a walk come to.
use Rattle.std.proofs.Common.{◌≡◌, refl, sym, ap, ap₂, ◌∙◌, subst, ℕ, List, [], ◌∷◌, ◌++◌, length, append_assoc, append-nil, arith, Result, Err, Ok, Option, Some, None}
use Rattle.std.specs.Prelude.{MatchOption, option_to_list}
use Rattle.ac_types.specs.Types.{Bytes}
use Rattle.ac_terms.specs.Heads.{Head, before}
use Rattle.ac_pack_heads.specs.Outcomes.{WalkEnd, On, walk_end, StopsWalk, Puts}
use Rattle.ac_pack_heads.specs.declared.stop.Stop.{Stop}
use Rattle.ac_pack_heads.specs.declared.stop.Stop.TheVariants as stop
use Rattle.ac_pack_heads.proofs.HeadLaws.{after_none, preceded_head}
use Rattle.ac_pack_terms.specs.Pieces.{heads_at, roots_at}
use Rattle.ac_pack_terms.specs.inner.Goes.{pending, comes, Visits}
use Rattle.ac_pack_terms.specs.declared.piece.Piece.{Piece}
use Rattle.ac_pack_terms.specs.declared.walk.Walk.{Walk}

pub pending_append : {A : Type 0} (f : Piece → List A) (ps qs : List Piece) → pending f (ps ++ qs) ≡ pending f qs ++ pending f ps
pending_append f [] qs = sym (append-nil (pending f qs))
pending_append f (p ∷ ps) qs = ap (λ x. x ++ f p) (pending_append f ps qs) ∙ append_assoc (pending f qs) (pending f ps) (f p)

-- a step that has gone on: what it has written, what it speaks of and what it adds
pub went : (u : Unit) (old new : Walk) (hs : List Head) (ns : List ℕ) (ps : List Piece)
    → new.site ≡ old.site → ((ks : List Head) → walk_end new.text.0 ks ≡ walk_end old.text.0 (hs ++ ks)) → new.roots ≡ old.roots ++ ns → new.pieces.items ≡ old.pieces.items ++ ps
    → Visits (Ok u) (hs ++ pending (heads_at old.site) ps) (ns ++ pending (roots_at old.site) ps) old new
unfolding Visits
went u old new hs ns ps s t r q =
    let H = heads_at old.site in
    let R = roots_at old.site in
    let now = old.pieces.items in (
      s,
      ap₂ (λ (o : WalkEnd) (l : List ℕ). (o, l))
          (ap₂ (λ x y. walk_end new.text.0 (pending (heads_at x) y)) s q ∙ ap (walk_end new.text.0) (pending_append H now ps) ∙ t (pending H ps ++ pending H now)
          ∙ ap (walk_end old.text.0) (sym (append_assoc hs (pending H ps) (pending H now))))
          (ap₂ (λ x y. x ++ y) r (ap₂ (λ x y. pending (roots_at x) y) s q ∙ pending_append R now ps)
          ∙ append_assoc old.roots ns (pending R ps ++ pending R now)
          ∙ ap (λ x. old.roots ++ x) (sym (append_assoc ns (pending R ps) (pending R now)))),
    )

-- a head that is put, or stopped in, with what it speaks of
pub put_spoken : (r : Result Unit Stop) (h : Head) (ns : List ℕ) (old new : Walk) → new.site ≡ old.site → new.roots ≡ old.roots ++ ns → new.pieces ≡ old.pieces → Puts r h old.text.0 new.text.0 → Visits r (h ∷ []) ns old new
unfolding Visits
put_spoken (Ok u) h ns old new s r p e = (
  s,
  ap₂ (λ (o : WalkEnd) (l : List ℕ). (o, l)) (ap₂ (λ x y. walk_end new.text.0 (pending (heads_at x) y.items)) s p ∙ e (pending (heads_at old.site) old.pieces.items))
      (ap₂ (λ x y. x ++ y) r (ap₂ (λ x y. pending (roots_at x) y.items) s p) ∙ append_assoc old.roots ns (pending (roots_at old.site) old.pieces.items)),
)
put_spoken (Err x) h ns old new s r p e = e

pub put : (r : Result Unit Stop) (h : Head) (old new : Walk) → new.site ≡ old.site → new.roots ≡ old.roots → new.pieces ≡ old.pieces → Puts r h old.text.0 new.text.0 → Visits r (h ∷ []) [] old new
put r h old new s e p x = put_spoken r h [] old new s (e ∙ sym (append-nil old.roots)) p x

-- a step that stops at its first head stops whatever comes behind it
pub stops_behind : (e : Stop) (bs : Bytes) (h : Head) (hs : List Head) → StopsWalk e bs (h ∷ []) → StopsWalk e bs (h ∷ hs)
stops_behind e bs h hs s = λ f q ks. s f q (hs ++ ks)

pub wants_memory : (hs : List Head) (ns : List ℕ) (old new : Walk) → Visits (Err stop.Memory) hs ns old new
unfolding Visits
wants_memory hs ns old new = λ f q ks. absurd cc

pub visits_same : (r : Result Unit Stop) (hs hs' : List Head) (ns ns' : List ℕ) (old new : Walk) → hs ≡ hs' → ns ≡ ns' → Visits r hs ns old new → Visits r hs' ns' old new
visits_same r hs hs' ns ns' old new e d v = subst (λ x. Visits r hs' x old new) d (subst (λ x. Visits r x ns old new) e v)

-- pieces that are added one after the other
pub added_twice : (a b c : List Piece) (p q : Piece) → b ≡ a ++ p ∷ [] → c ≡ b ++ q ∷ [] → c ≡ a ++ p ∷ q ∷ []
added_twice a b c p q e d = d ∙ ap (λ x. x ++ q ∷ []) e ∙ append_assoc a (p ∷ []) (q ∷ [])

pub added_thrice : (a b c d : List Piece) (p q r : Piece) → b ≡ a ++ p ∷ [] → c ≡ b ++ q ∷ [] → d ≡ c ++ r ∷ [] → d ≡ a ++ p ∷ q ∷ r ∷ []
added_thrice a b c d p q r e f g = g ∙ ap (λ x. x ++ r ∷ []) (added_twice a b c p q e f) ∙ append_assoc a (p ∷ q ∷ []) (r ∷ [])

-- bytes in front of the first head of a piece
pub went_before : (u : Unit) (old new : Walk) (bs : Bytes) (p : Piece) (h : Head) (hs : List Head) → heads_at old.site p ≡ h ∷ hs → new.site ≡ old.site → new.text.0 ≡ old.text.0 ++ bs → new.roots ≡ old.roots → new.pieces.items ≡ old.pieces.items ++ p ∷ [] →
    Visits (Ok u) (before bs (h ∷ hs)) (roots_at old.site p) old new
unfolding Visits
went_before u old new bs p h hs e s t r q =
    let H = heads_at old.site in
    let R = roots_at old.site in
    let now = old.pieces.items in (
      s,
      ap₂ (λ (o : WalkEnd) (l : List ℕ). (o, l))
          (ap₂ (λ x y. walk_end new.text.0 (pending (heads_at x) y)) s q ∙ ap (walk_end new.text.0) (pending_append H now (p ∷ []) ∙ ap (λ x. x ++ pending H now) e)
          ∙ ap (λ x. walk_end x (h ∷ hs ++ pending H now)) t ∙ preceded_head old.text.0 bs h (hs ++ pending H now))
          (ap₂ (λ x y. x ++ y) r (ap₂ (λ x y. pending (roots_at x) y) s q ∙ pending_append R now (p ∷ []))),
    )

-- the last piece leaves
pub popped : (o : Option Piece) (old new : Walk) → new.site ≡ old.site → new.text ≡ old.text → new.roots ≡ old.roots → old.pieces.items ≡ new.pieces.items ++ option_to_list o → (o ≡ None → old.pieces.items ≡ []) →
    MatchOption o (comes [] [] old ≡ (On new.text.0, new.roots)) (λ p. comes [] [] old ≡ comes (heads_at old.site p) (roots_at old.site p) new)
popped None old new s t r q e =
    let none = e refl in
    ap₂ (λ (o : WalkEnd) (l : List ℕ). (o, l))
    (ap (λ x. walk_end old.text.0 (pending (heads_at old.site) x)) none ∙ after_none old.text.0 ∙ ap (λ x. On x.0) (sym t))
    (ap (λ x. old.roots ++ pending (roots_at old.site) x) none ∙ append-nil old.roots ∙ sym r)
popped (Some p) old new s t r q e =
    ap₂ (λ (o : WalkEnd) (l : List ℕ). (o, l))
    (ap₂ (λ x y. walk_end x.0 (pending (heads_at old.site) y)) (sym t) q ∙ ap (walk_end new.text.0) (pending_append (heads_at old.site) new.pieces.items (p ∷ []))
    ∙ ap (λ x. walk_end new.text.0 (heads_at old.site p ++ pending (heads_at x) new.pieces.items)) (sym s))
    (ap₂ (λ x y. x ++ pending (roots_at old.site) y) (sym r) q ∙ ap (λ x. new.roots ++ x) (pending_append (roots_at old.site) new.pieces.items (p ∷ []))
    ∙ ap (λ x. new.roots ++ (roots_at old.site p ++ pending (roots_at x) new.pieces.items)) (sym s))

pub no_items : (ps : List Piece) → length ps ≡ 0 → ps ≡ []
no_items [] e = refl
no_items (p ∷ ps) e = absurd (omega arith)

pub at_none : (P : Type 0) (Q : Piece → Type 0) (o : Option Piece) → MatchOption o P Q → o ≡ None → P
at_none P Q None h e = h
at_none P Q (Some p) h e = absurd cc

pub ruleset step_laws = (wants_memory)

pub ruleset stop_laws = (stops_behind)
