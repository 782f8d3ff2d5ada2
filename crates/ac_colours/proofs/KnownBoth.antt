-- Two coherent environments in which what is known in both is opened to the same: such types have one head and one bare type.
use Rattle.std.proofs.Common.{◌≡◌, refl, sym, ap, ap₂, ◌∙◌, subst, ℕ, zero, suc, ◌+◌, true, length}
use Rattle.std.specs.List.{list_all}
use native.Mathlib.Omega.{arith}
use Rattle.ac_types.proofs.Same.{both_true}
use Rattle.ac_types.specs.Types.{Bytes, Typ, TTuple, TList, TOpt, TFun, TAbs, Typs, no_types, typ, mentions, mentions_of_all, with_each, all_with_each}
use Rattle.ac_terms.specs.Defs.{Environment}
use Rattle.ac_terms.proofs.AllLaws.{all_left, all_right}
use Rattle.ac_rules.specs.Views.{opened, rounds, bare, unsealed, head, is_known, are_known}
use Rattle.ac_rules.specs.Coherent.{IsCoherent}
use Rattle.ac_rules.proofs.BareLaws.{bare_mentions_none, closed}
use Rattle.ac_rules.proofs.Growth.{round_known}
use Rattle.ac_rules.proofs.KnownTypes.{rounds_plus, rounds_still, rounds_known, settled}

-- what is known in both is opened to the same
pub record Agreeing (E F : Environment) : Type 0 where
  pub first : IsCoherent E
  pub second : IsCoherent F
  pub opened_alike : (n t : Bytes) → is_known E (n, t) ≡ true → is_known F (n, t) ≡ true → opened E n t ≡ opened F n t

module _ (E F : Environment) (a : Agreeing E F) where
  mutual
    each_both : (T : Typ) → are_known E T ≡ true → are_known F T ≡ true → with_each (opened E) T ≡ with_each (opened F) T
    each_both (TTuple Ts) h k = ap TTuple (all_each_both Ts h k)
    each_both (TList T) h k = ap TList (each_both T h k)
    each_both (TOpt T) h k = ap TOpt (each_both T h k)
    each_both (TFun T U) h k =
        ap₂ TFun (each_both T (all_left (is_known E) (mentions T) (mentions U) h) (all_left (is_known F) (mentions T) (mentions U) k))
        (each_both U (all_right (is_known E) (mentions T) (mentions U) h) (all_right (is_known F) (mentions T) (mentions U) k))
    each_both (TAbs n t) h k = a.opened_alike n t (both_true (is_known E (n, t)) true h).0 (both_true (is_known F (n, t)) true k).0
    each_both _ h k = refl

    all_each_both : (Ts : Typs) → list_all (is_known E) (mentions_of_all Ts) ≡ true → list_all (is_known F) (mentions_of_all Ts) ≡ true → all_with_each (opened E) Ts ≡ all_with_each (opened F) Ts
    all_each_both no_types h k = refl
    all_each_both (typ T Ts) h k =
        ap₂ typ (each_both T (all_left (is_known E) (mentions T) (mentions_of_all Ts) h) (all_left (is_known F) (mentions T) (mentions_of_all Ts) k))
        (all_each_both Ts (all_right (is_known E) (mentions T) (mentions_of_all Ts) h) (all_right (is_known F) (mentions T) (mentions_of_all Ts) k))

  rounds_both : (k : ℕ) (T : Typ) → are_known E T ≡ true → are_known F T ≡ true → rounds k (with_each (opened E)) T ≡ rounds k (with_each (opened F)) T
  rounds_both zero T h k = refl
  rounds_both (suc j) T h k =
      let same = each_both T h k in
      rounds_both j (with_each (opened E) T) (round_known E a.first T h) (subst (λ X. are_known F X ≡ true) (sym same) (round_known F a.second T k)) ∙ ap (rounds j (with_each (opened F))) same

  pub bare_both : (T : Typ) → are_known E T ≡ true → are_known F T ≡ true → bare E T ≡ bare F T
  bare_both T h k =
      let n : ℕ = length E in
      let m : ℕ = length F in
      let swap : n + m ≡ m + n = omega arith in
      sym (rounds_still m (with_each (opened E)) (bare E T) (closed (opened E) (bare E T) (bare_mentions_none E a.first T h))) ∙ sym (rounds_plus n m (with_each (opened E)) T) ∙
      rounds_both (n + m) T h k ∙ ap (λ i. rounds i (with_each (opened F)) T) swap ∙ rounds_plus m n (with_each (opened F)) T ∙
      rounds_still n (with_each (opened F)) (bare F T) (closed (opened F) (bare F T) (bare_mentions_none F a.second T k))

  unsealed_both : (T : Typ) → are_known E T ≡ true → are_known F T ≡ true → unsealed E T ≡ unsealed F T
  unsealed_both (TAbs n t) h k = a.opened_alike n t (both_true (is_known E (n, t)) true h).0 (both_true (is_known F (n, t)) true k).0
  unsealed_both _ h k = refl

  heads_both : (k : ℕ) (T : Typ) → are_known E T ≡ true → are_known F T ≡ true → rounds k (unsealed E) T ≡ rounds k (unsealed F) T
  heads_both zero T h k = refl
  heads_both (suc j) T h k =
      let same = unsealed_both T h k in
      heads_both j (unsealed E T) (rounds_known E a.first 1 T h) (subst (λ X. are_known F X ≡ true) (sym same) (rounds_known F a.second 1 T k)) ∙ ap (rounds j (unsealed F)) same

  pub head_both : (T : Typ) → are_known E T ≡ true → are_known F T ≡ true → head E T ≡ head F T
  head_both T h k =
      let n : ℕ = length E in
      let m : ℕ = length F in
      let swap : n + m ≡ m + n = omega arith in
      sym (settled E a.first T h m) ∙ sym (rounds_plus n m (unsealed E) T) ∙ heads_both (n + m) T h k ∙ ap (λ i. rounds i (unsealed F) T) swap ∙ rounds_plus m n (unsealed F) T ∙ settled F a.second T k n
