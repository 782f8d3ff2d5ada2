-- A packed value of a type without functions speaks of no type, no definition and no home, so other numbers change nothing in it.
use Rattle.std.proofs.Common.{◌≡◌, refl, sym, ap, ap₂, ◌∙◌, subst, ℕ, Bool, true, false, List, [], ◌∷◌, ◌++◌, length}
use Rattle.std.specs.Prelude.{◌||◌}
use Rattle.std.specs.List.{list_all}
use Rattle.std.specs.Option.{option_map_or}
use mathlib.Core.Bool.{true≢false}
use Rattle.ac_types.proofs.Same.{both_true}
use Rattle.ac_types.specs.Types.{Typ, TTuple, TList, TOpt, TFun, Typs, no_types, typ, mentions, mentions_of_all, has_function, have_function}
use Rattle.ac_terms.specs.Terms.{Main, PValue, KInt, KBool, KStr, KUnit, KExn, KTuple, KList, KAbsent, KPresent, KFun, PValues, no_pvalues, pvalue}
use Rattle.ac_terms.specs.Defs.{Environment}
use Rattle.ac_terms.specs.Parts.{Portion, value_parts, all_value_parts}
use Rattle.ac_terms.specs.Renumbered.{value_renumbered, values_renumbered}
use Rattle.ac_terms.proofs.AllLaws.{all_left, all_right}
use Rattle.ac_rules.specs.Views.{Plain, Coloured, bare, head, is_known, are_known}
use Rattle.ac_rules.specs.Typing.{tuple_parts, list_item, option_item, is_function, holds, all_hold, each_holds}
use Rattle.ac_rules.specs.Coherent.{IsCoherent}
use Rattle.ac_rules.proofs.KnownTypes.{head_known}
use Rattle.ac_colours.proofs.Telling.{Flat, AllFlat, flat_tuple, flat_list, flat_opt, flat_fun}
use Rattle.ac_colours.proofs.Brings.{bare_rounds}
use Rattle.ac_meaning.proofs.Homes.{all_seen}

pub or_left : (a b : Bool) → (a || b) ≡ false → a ≡ false
or_left true b h = h
or_left false b h = refl

pub or_right : (a b : Bool) → (a || b) ≡ false → b ≡ false
or_right true b h = absurd (true≢false h)
or_right false b h = h

pub nil_both : {A : Type 0} (xs ys : List A) → xs ++ ys ≡ [] → (xs ≡ []) × (ys ≡ [])
nil_both [] ys h = (refl, h)
nil_both (x ∷ xs) ys h = absurd cc

both_nil : (ps qs : List Portion) → ps ≡ [] → qs ≡ [] → ps ++ qs ≡ []
both_nil ps qs h k = ap (λ xs. xs ++ qs) h ∙ k

-- other numbers
module _ (f : ℕ → ℕ) where
  mutual
    pub no_numbers : (w : PValue) → value_parts w ≡ [] → value_renumbered f w ≡ w
    no_numbers (KInt n) h = refl
    no_numbers (KBool b) h = refl
    no_numbers (KStr s) h = refl
    no_numbers KUnit h = refl
    no_numbers (KExn k s) h = refl
    no_numbers (KTuple ws) h = ap KTuple (none_numbered ws h)
    no_numbers (KList ws) h = ap KList (none_numbered ws h)
    no_numbers KAbsent h = refl
    no_numbers (KPresent w) h = ap KPresent (no_numbers w h)
    no_numbers (KFun c l) h = absurd cc

    none_numbered : (ws : PValues) → all_value_parts ws ≡ [] → values_renumbered f ws ≡ ws
    none_numbered no_pvalues h = refl
    none_numbered (pvalue w ws) h = let p = nil_both (value_parts w) (all_value_parts ws) h in ap₂ pvalue (no_numbers w p.0) (none_numbered ws p.1)

-- of a type in which no function is in the end
module _ (E : Environment) (coherent : IsCoherent E) where
  abbrev IsFlat : Typ → Type 0
  IsFlat T = Flat E coherent T

  abbrev AreFlat : Typs → Type 0
  AreFlat Ts = AllFlat E coherent Ts

  flat_head : (T H : Typ) → head E T ≡ H → are_known E T ≡ true → IsFlat T → IsFlat H
  flat_head T H q k h = subst IsFlat q (ap has_function (bare_rounds E coherent (length E) T k) ∙ h)

  known_head : (T H : Typ) → head E T ≡ H → are_known E T ≡ true → are_known E H ≡ true
  known_head T H q k = subst (λ U. are_known E U ≡ true) q (head_known E coherent T k)

  -- what a value has by the head of its type
  of_tuple : (ws : PValues) (T : Typ) → are_known E T ≡ true → IsFlat T → ((Ts : Typs) → list_all (is_known E) (mentions_of_all Ts) ≡ true → AreFlat Ts → all_hold Coloured false E ws Ts ≡ true → all_value_parts ws ≡ []) →
      (H : Typ) → head E T ≡ H → option_map_or (λ Ts. all_hold Coloured false E ws Ts) (tuple_parts H) false ≡ true → all_value_parts ws ≡ []
  of_tuple ws T k l go (TTuple Ts) q h = go Ts (known_head T (TTuple Ts) q k) (flat_tuple E coherent Ts (flat_head T (TTuple Ts) q k l)) h
  of_tuple ws T k l go _ q h = absurd (true≢false (sym h))

  of_list : (ws : PValues) (T : Typ) → are_known E T ≡ true → IsFlat T → ((A : Typ) → are_known E A ≡ true → IsFlat A → each_holds Coloured false E ws A ≡ true → all_value_parts ws ≡ []) →
      (H : Typ) → head E T ≡ H → option_map_or (λ A. each_holds Coloured false E ws A) (list_item H) false ≡ true → all_value_parts ws ≡ []
  of_list ws T k l go (TList A) q h = go A (known_head T (TList A) q k) (flat_list E coherent A (flat_head T (TList A) q k l)) h
  of_list ws T k l go _ q h = absurd (true≢false (sym h))

  of_option : (w : PValue) (T : Typ) → are_known E T ≡ true → IsFlat T → ((A : Typ) → are_known E A ≡ true → IsFlat A → holds Coloured false E w A ≡ true → value_parts w ≡ []) →
      (H : Typ) → head E T ≡ H → option_map_or (λ A. holds Coloured false E w A) (option_item H) false ≡ true → value_parts w ≡ []
  of_option w T k l go (TOpt A) q h = go A (known_head T (TOpt A) q k) (flat_opt E coherent A (flat_head T (TOpt A) q k l)) h
  of_option w T k l go _ q h = absurd (true≢false (sym h))

  of_function : (T H : Typ) → head E T ≡ H → are_known E T ≡ true → IsFlat T → is_function H ≡ true → ⊥
  of_function T (TFun A B) q k l h = flat_fun E coherent A B (flat_head T (TFun A B) q k l)
  of_function T _ q k l h = true≢false (sym h)

  mutual
    pub no_parts : (w : PValue) (T : Typ) → are_known E T ≡ true → IsFlat T → holds Coloured false E w T ≡ true → value_parts w ≡ []
    no_parts (KInt n) T k l h = refl
    no_parts (KBool b) T k l h = refl
    no_parts (KStr s) T k l h = refl
    no_parts KUnit T k l h = refl
    no_parts (KExn n s) T k l h = refl
    no_parts (KTuple ws) T k l h = of_tuple ws T k l (λ Ts k' l' h'. all_no_parts ws Ts k' l' h') (head E T) refl h
    no_parts (KList ws) T k l h = of_list ws T k l (λ A k' l' h'. each_no_parts ws A k' l' h') (head E T) refl h
    no_parts KAbsent T k l h = refl
    no_parts (KPresent w) T k l h = of_option w T k l (λ A k' l' h'. no_parts w A k' l' h') (head E T) refl h
    no_parts (KFun c e) T k l h = absurd (of_function T (head E T) refl k l (both_true _ _ (both_true _ _ h).0).0)

    all_no_parts : (ws : PValues) (Ts : Typs) → list_all (is_known E) (mentions_of_all Ts) ≡ true → AreFlat Ts → all_hold Coloured false E ws Ts ≡ true → all_value_parts ws ≡ []
    all_no_parts no_pvalues Ts k l h = refl
    all_no_parts (pvalue w ws) no_types k l h = absurd (true≢false (sym h))
    all_no_parts (pvalue w ws) (typ T Ts) k l h =
        let p = both_true (holds Coloured false E w T) (all_hold Coloured false E ws Ts) h in
        both_nil (value_parts w) (all_value_parts ws)
        (no_parts w T (all_left (is_known E) (mentions T) (mentions_of_all Ts) k) (or_left (has_function (bare E T)) (have_function (all_seen E Plain Main Ts)) l) p.0)
        (all_no_parts ws Ts (all_right (is_known E) (mentions T) (mentions_of_all Ts) k) (or_right (has_function (bare E T)) (have_function (all_seen E Plain Main Ts)) l) p.1)

    each_no_parts : (ws : PValues) (A : Typ) → are_known E A ≡ true → IsFlat A → each_holds Coloured false E ws A ≡ true → all_value_parts ws ≡ []
    each_no_parts no_pvalues A k l h = refl
    each_no_parts (pvalue w ws) A k l h =
        let p = both_true (holds Coloured false E w A) (each_holds Coloured false E ws A) h in
        both_nil (value_parts w) (all_value_parts ws) (no_parts w A k l p.0) (each_no_parts ws A k l p.1)
