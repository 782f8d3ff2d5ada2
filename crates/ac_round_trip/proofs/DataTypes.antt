-- Types without functions and abstract types look alike in all definitions.
use Rattle.std.proofs.Common.{◌≡◌, refl, sym, ap, ◌∙◌, subst, true, false, ◌&&◌, [], length}
use Rattle.std.specs.Prelude.{is_some}
use Rattle.std.specs.List.{list_all}
use Rattle.std.specs.Option.{option_map_or}
use mathlib.Core.Bool.{true≢false}
use Rattle.ac_types.proofs.Same.{both_true, and_true}
use Rattle.ac_types.specs.Types.{Typ, TInt, TBool, TStr, TUnit, TExn, TTuple, TList, TOpt, TFun, TAbs, Typs, no_types, typ, same, with_each, mentions, mentions_of_all, has_function, have_function}
use Rattle.ac_terms.specs.PrimitiveTypes.{is_exception}
use Rattle.ac_terms.specs.Terms.{PValue, KInt, KBool, KStr, KUnit, KExn, KTuple, KList, KAbsent, KPresent, KFun, PValues, no_pvalues, pvalue}
use Rattle.ac_terms.specs.Defs.{Environment}
use Rattle.ac_rules.specs.Views.{Coloured, bare, head, opened, unsealed, is_known, are_known}
use Rattle.ac_rules.specs.Typing.{tuple_parts, list_item, option_item, is_function, holds, all_hold, each_holds}
use Rattle.ac_rules.proofs.BareLaws.{closed}
use Rattle.ac_rules.proofs.KnownTypes.{rounds_still}
use Rattle.ac_round_trip.specs.Strings.{IsData}
use Rattle.ac_round_trip.proofs.NoParts.{or_left, or_right, nil_both}

-- the first and the other ones of some types
abbrev pub first_of_all : Typs → Typ
first_of_all (typ T Ts) = T
first_of_all no_types = TUnit

abbrev pub rest_of_all : Typs → Typs
rest_of_all (typ T Ts) = Ts
rest_of_all no_types = no_types

pub record AreData (Ts : Typs) : Type 0 where
  pub no_function : have_function Ts ≡ false
  pub no_name : mentions_of_all Ts ≡ []

pub of_parts : (Ts : Typs) → IsData (TTuple Ts) → AreData Ts
of_parts Ts i = record { no_function = i.no_function; no_name = i.no_name }

pub of_first : (T : Typ) (Ts : Typs) → AreData (typ T Ts) → IsData T × AreData Ts
of_first T Ts i =
    let p = nil_both (mentions T) (mentions_of_all Ts) i.no_name in (
      record { no_function = or_left (has_function T) (have_function Ts) i.no_function; no_name = p.0 },
      record { no_function = or_right (has_function T) (have_function Ts) i.no_function; no_name = p.1 },
    )

pub of_item : (A : Typ) → IsData (TList A) → IsData A
of_item A i = record { no_function = i.no_function; no_name = i.no_name }

pub of_content : (A : Typ) → IsData (TOpt A) → IsData A
of_content A i = record { no_function = i.no_function; no_name = i.no_name }

pub no_data_function : (A B : Typ) → IsData (TFun A B) → ⊥
no_data_function A B i = true≢false i.no_function

module _ (E : Environment) where
  pub data_head : (T : Typ) → mentions T ≡ [] → head E T ≡ T
  data_head (TAbs n t) h = absurd cc
  data_head T h = rounds_still (length E) (unsealed E) T refl

  pub data_bare : (T : Typ) → mentions T ≡ [] → bare E T ≡ T
  data_bare T h = rounds_still (length E) (with_each (opened E)) T (closed (opened E) T h)

  pub data_flat : (T : Typ) → IsData T → has_function (bare E T) ≡ false
  data_flat T i = ap has_function (data_bare T i.no_name) ∙ i.no_function

  pub data_known : (T : Typ) → mentions T ≡ [] → are_known E T ≡ true
  data_known T h = ap (list_all (is_known E)) h

-- a packed value holds at such a type in all definitions, where it does in some
module _ (E F : Environment) where
  heads : (T : Typ) → IsData T → head F T ≡ head E T
  heads T i = data_head F T i.no_name ∙ sym (data_head E T i.no_name)

  tuple_holds : (ws : PValues) (T : Typ) → IsData T → ((Ts : Typs) → AreData Ts → all_hold Coloured false E ws Ts ≡ true → all_hold Coloured false F ws Ts ≡ true) →
      option_map_or (λ Ts. all_hold Coloured false E ws Ts) (tuple_parts T) false ≡ true → option_map_or (λ Ts. all_hold Coloured false F ws Ts) (tuple_parts T) false ≡ true
  tuple_holds ws (TTuple Ts) i go h = go Ts (of_parts Ts i) h
  tuple_holds ws _ i go h = absurd (true≢false (sym h))

  list_holds : (ws : PValues) (T : Typ) → IsData T → ((A : Typ) → IsData A → each_holds Coloured false E ws A ≡ true → each_holds Coloured false F ws A ≡ true) →
      option_map_or (λ A. each_holds Coloured false E ws A) (list_item T) false ≡ true → option_map_or (λ A. each_holds Coloured false F ws A) (list_item T) false ≡ true
  list_holds ws (TList A) i go h = go A (of_item A i) h
  list_holds ws _ i go h = absurd (true≢false (sym h))

  option_holds : (w : PValue) (T : Typ) → IsData T → ((A : Typ) → IsData A → holds Coloured false E w A ≡ true → holds Coloured false F w A ≡ true) →
      option_map_or (λ A. holds Coloured false E w A) (option_item T) false ≡ true → option_map_or (λ A. holds Coloured false F w A) (option_item T) false ≡ true
  option_holds w (TOpt A) i go h = go A (of_content A i) h
  option_holds w _ i go h = absurd (true≢false (sym h))

  function_holds : (T : Typ) → IsData T → is_function T ≡ true → ⊥
  function_holds (TFun A B) i h = no_data_function A B i
  function_holds _ i h = true≢false (sym h)

  mutual
    pub data_holds : (w : PValue) (T : Typ) → IsData T → holds Coloured false E w T ≡ true → holds Coloured false F w T ≡ true
    data_holds (KInt n) T i h = ap (λ H. same H TInt) (heads T i) ∙ h
    data_holds (KBool b) T i h = ap (λ H. same H TBool) (heads T i) ∙ h
    data_holds (KStr s) T i h = ap (λ H. same H TStr) (heads T i) ∙ h
    data_holds KUnit T i h = ap (λ H. same H TUnit) (heads T i) ∙ h
    data_holds (KExn k s) T i h = ap (λ H. same H TExn && is_exception k s) (heads T i) ∙ h
    data_holds (KTuple ws) T i h =
        ap (λ H. option_map_or (λ Ts. all_hold Coloured false F ws Ts) (tuple_parts H) false) (data_head F T i.no_name) ∙
        tuple_holds ws T i (λ Ts j k. all_data_hold ws Ts j k) (subst (λ H. option_map_or (λ Ts. all_hold Coloured false E ws Ts) (tuple_parts H) false ≡ true) (data_head E T i.no_name) h)
    data_holds (KList ws) T i h =
        ap (λ H. option_map_or (λ A. each_holds Coloured false F ws A) (list_item H) false) (data_head F T i.no_name) ∙
        list_holds ws T i (λ A j k. each_data_holds ws A j k) (subst (λ H. option_map_or (λ A. each_holds Coloured false E ws A) (list_item H) false ≡ true) (data_head E T i.no_name) h)
    data_holds KAbsent T i h = ap (λ H. is_some (option_item H)) (heads T i) ∙ h
    data_holds (KPresent w) T i h =
        ap (λ H. option_map_or (λ A. holds Coloured false F w A) (option_item H) false) (data_head F T i.no_name) ∙
        option_holds w T i (λ A j k. data_holds w A j k) (subst (λ H. option_map_or (λ A. holds Coloured false E w A) (option_item H) false ≡ true) (data_head E T i.no_name) h)
    data_holds (KFun c l) T i h = absurd (function_holds T i (subst (λ H. is_function H ≡ true) (data_head E T i.no_name) (both_true _ _ (both_true _ _ h).0).0))

    all_data_hold : (ws : PValues) (Ts : Typs) → AreData Ts → all_hold Coloured false E ws Ts ≡ true → all_hold Coloured false F ws Ts ≡ true
    all_data_hold no_pvalues no_types i h = refl
    all_data_hold no_pvalues (typ T Ts) i h = h
    all_data_hold (pvalue w ws) no_types i h = h
    all_data_hold (pvalue w ws) (typ T Ts) i h =
        let j = of_first T Ts i in
        let p = both_true (holds Coloured false E w T) (all_hold Coloured false E ws Ts) h in
        and_true {a = holds Coloured false F w T} {b = all_hold Coloured false F ws Ts} (data_holds w T j.0 p.0) (all_data_hold ws Ts j.1 p.1)

    each_data_holds : (ws : PValues) (A : Typ) → IsData A → each_holds Coloured false E ws A ≡ true → each_holds Coloured false F ws A ≡ true
    each_data_holds no_pvalues A i h = refl
    each_data_holds (pvalue w ws) A i h =
        let p = both_true (holds Coloured false E w A) (each_holds Coloured false E ws A) h in
        and_true {a = holds Coloured false F w A} {b = each_holds Coloured false F ws A} (data_holds w A i p.0) (each_data_holds ws A i p.1)
