-- What a type is in the end, from what one opening makes of it, and the map of ends after one more.
use Rattle.std.proofs.Common.{Ordering, ◌≡◌, refl, sym, ap, ap₂, ◌∙◌, subst, ℕ, zero, suc, ◌+◌, ◌-◌, ◌<◌, ◌≤◌, arith, Bool, true, false, cond, length, Option, Some, None, Bor}
use Rattle.std.specs.Prelude.{IfSome, unwrap_or}
use Rattle.std.specs.declared.cmp.Ordering.TheVariants.{Less, Equal, Greater}
use Rattle.std.specs.Ordering.{nat_cmp, ordering_then, is_eq}
use Rattle.std.specs.Cmp.Lexicographic.{slice_cmp}
use Rattle.std.specs.BTreeMap.{IsEmpty, IsUnchanged, Updates, get}
use Rattle.std.proofs.lemmas.Map.Lookups.{exact_bytes}
use mathlib.Core.Bool.{true≢false}
use Rattle.ac_types.specs.Types.{Bytes, Typ, TAbs}
use Rattle.ac_types.specs.ReadTypes.{typ_of}
use Rattle.ac_types.specs.declared.ty.Ty.{Ty}
use Rattle.ac_terms.specs.Defs.{Environment}
use Rattle.ac_rules.specs.Views.{head, representation, rounds, unsealed}
use Rattle.ac_check_views.proofs.HeadLaws.{rounds_still, next_round}
use Rattle.ac_check.specs.declared.heads.End.{End}
use Rattle.ac_check.specs.declared.heads.Heads.{Heads}
use Rattle.ac_check.specs.inner.Heads.{Key, key_cmp, abstract_type, IsEnd, AreHeads}

rounds_both : (i k : ℕ) (f : Typ → Typ) (T : Typ) → rounds (i + k) f T ≡ rounds k f (rounds i f T)
rounds_both zero k f T = let e : zero + k ≡ k = omega arith in ap (λ n. rounds n f T) e
rounds_both (suc i) k f T = let e : suc i + k ≡ suc (i + k) = omega arith in ap (λ n. rounds n f T) e ∙ rounds_both i k f (f T)

-- what is so many openings further, behind one opening
pub further : (f : Typ → Typ) (T U V : Typ) (n : ℕ) → ((k : ℕ) → rounds (n + k) f T ≡ rounds k f U) → V ≡ f U → (k : ℕ) → rounds (n + 1 + k) f T ≡ rounds k f V
further f T U V n h e k =
    let s : n + 1 + k ≡ n + suc k = omega arith in
    ap (λ m. rounds m f T) s ∙ h (suc k) ∙ ap (rounds k f) (sym e)

pub nearer : (f : Typ → Typ) (U V H : Typ) (n i : ℕ) → i < n → rounds (n - i) f U ≡ H → V ≡ f U → rounds (n - (i + 1)) f V ≡ H
nearer f U V H n i l h e = ap (rounds (n - (i + 1)) f) e ∙ sym (next_round n i f U l) ∙ h

module _ (E : Environment) where
  pub end_is_head : (T : Typ) (e : End) → IsEnd E T e → typ_of e.ty.now ≡ head E T
  end_is_head T e is =
      let f = unsealed E in
      let n : length E ≡ e.openings + (length E - e.openings) = omega (arith, is.soon) in
      sym (ap (λ k. rounds k f T) n ∙ rounds_both e.openings (length E - e.openings) f T ∙ ap (rounds (length E - e.openings) f) is.reached
      ∙ rounds_still (length E - e.openings) f (typ_of e.ty.now) is.still)

  -- a type that no opening changes
  pub ends_here : (t : Bor Ty) → typ_of t.now ≡ unsealed E (typ_of t.now) → IsEnd E (typ_of t.now) (record { ty = t; openings = 0 })
  ends_here t h = record { reached = refl; still = sym h; soon = omega arith }

  -- an abstract type that stands for another type, and one that stands for none
  pub stands_for : (T U : Typ) (n w b : Bytes) → T ≡ TAbs n w → b ≡ w → Some U ≡ representation E n w → (T ≡ TAbs n b) × (U ≡ unsealed E T)
  stands_for T U n w b is e r = (is ∙ ap (TAbs n) (sym e), ap (λ (o : Option Typ). unwrap_or o (TAbs n w)) r ∙ ap (unsealed E) (sym is))

  pub stands_for_none : (t : Bor Ty) (n w : Bytes) → typ_of t.now ≡ TAbs n w → None ≡ representation E n w → IsEnd E (typ_of t.now) (record { ty = t; openings = 0 })
  stands_for_none t n w is r = ends_here t (is ∙ ap (λ (o : Option Typ). unwrap_or o (TAbs n w)) r ∙ ap (unsealed E) (sym is))

  -- an end from what the type is after some openings
  pub end_behind : (T U : Typ) (n m : ℕ) (e : End) → ((k : ℕ) → rounds (n + k) (unsealed E) T ≡ rounds k (unsealed E) U) → IsEnd E U e → m ≡ n + e.openings → m ≤ length E →
      IsEnd E T (record { ty = e.ty; openings = m })
  end_behind T U n m e h is x l =
      record { reached = ap (λ k. rounds k (unsealed E) T) x ∙ h e.openings ∙ is.reached; still = is.still; soon = l }

  -- the end of a type on the way
  pub end_on_way : (T U : Typ) (m : ℕ) (e : End) → IsEnd E T e → m ≤ e.openings → rounds m (unsealed E) U ≡ typ_of e.ty.now → IsEnd E U (record { ty = e.ty; openings = m })
  end_on_way T U m e is l h = record { reached = h; still = is.still; soon = let s = is.soon in omega (arith, l, s) }

  pub no_heads : (h : Heads) → IsEmpty h.found → AreHeads E h
  unfolding AreHeads
  no_heads h e k = rw e tt

  pub found_end : (h : Heads) → AreHeads E h → (k : Key) (e : End) → get key_cmp h.found k ≡ Some e → IsEnd E (abstract_type k) e
  unfolding AreHeads
  found_end h are k e x = subst (λ (o : Option End). IfSome o (IsEnd E (abstract_type k))) x (are k)

  pub heads_same : (old new : Heads) → AreHeads E old → IsUnchanged old.found new.found → AreHeads E new
  unfolding AreHeads
  heads_same old new are u k = rw u (are k)

  same_type : (a b : Key) → is_eq (key_cmp a b) ≡ true → abstract_type a ≡ abstract_type b
  same_type a b h = by (slice_cmp nat_cmp a.0 b.0) (slice_cmp nat_cmp a.1.now b.1.now) refl refl h
    where
      by : (x y : Ordering) → slice_cmp nat_cmp a.0 b.0 ≡ x → slice_cmp nat_cmp a.1.now b.1.now ≡ y → is_eq (ordering_then x y) ≡ true → abstract_type a ≡ abstract_type b
      by Less y p q e = absurd (true≢false (sym e))
      by Greater y p q e = absurd (true≢false (sym e))
      by Equal Less p q e = absurd (true≢false (sym e))
      by Equal Greater p q e = absurd (true≢false (sym e))
      by Equal Equal p q e = ap₂ TAbs (exact_bytes a.0 b.0 p) (exact_bytes a.1.now b.1.now q)

  pub heads_more : (old new : Heads) (k : Key) (e : End) → AreHeads E old → IsEnd E (abstract_type k) e → Updates key_cmp old.found new.found k (Some e) → AreHeads E new
  unfolding AreHeads
  heads_more old new k e are is u q =
      subst (λ (o : Option End). IfSome o (IsEnd E (abstract_type q))) (sym (u.0 q)) (by (is_eq (key_cmp k q)) refl)
    where
      by : (b : Bool) → is_eq (key_cmp k q) ≡ b → IfSome (cond b (Some e) (get key_cmp old.found q)) (IsEnd E (abstract_type q))
      by true x = subst (λ (T : Typ). IsEnd E T e) (same_type k q x) is
      by false x = are q
