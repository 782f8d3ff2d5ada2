-- A packed value of a type without functions and abstract types is rebuilt, and then packed as itself again. What was packed in the main program is rebuilt there as it was.
use Rattle.std.proofs.Common.{◌≡◌, refl, sym, ap, ap₂, ◌∙◌, subst, ℕ, zero, suc, true, false, List, [], ◌∷◌, length}
use Rattle.std.specs.List.{list_all}
use Rattle.std.specs.Option.{option_map_or}
use mathlib.Core.Bool.{true≢false}
use Rattle.ac_types.proofs.Same.{both_true}
use Rattle.ac_types.specs.Types.{Bytes, Typ, TUnit, TTuple, TList, TOpt, TFun, TAbs, Typs, no_types, typ, mentions, mentions_of_all}
use Rattle.ac_terms.specs.Terms.{Home, Main, PValue, KInt, KBool, KStr, KUnit, KExn, KTuple, KList, KAbsent, KPresent, KFun, PValues, no_pvalues, pvalue, Value, VInt, VBool, VStr, VUnit, VExn, VTuple, VNil, VCons, VAbsent, VPresent, VLam, VRec, VProxy, VSeal, Values, no_values, value}
use Rattle.ac_terms.specs.Defs.{Environment}
use Rattle.ac_rules.specs.Views.{Coloured, view}
use Rattle.ac_rules.specs.Typing.{tuple_parts, list_item, option_item, is_function, holds, all_hold, each_holds}
use Rattle.ac_rules.specs.Plain.{where_there, in_front, packed, all_packed}
use Rattle.ac_rules.proofs.ViewLaws.{foreign_view}
use Rattle.ac_meaning.specs.BareTerms.{unpacked, all_unpacked, unpacked_list}
use Rattle.ac_meaning.specs.BarePacking.{bare_packed, bare_all_packed}
use Rattle.ac_meaning.specs.Rebuilding.{parts_of, item_of, sealed, rebuilt, all_rebuilt, list_rebuilt}
use Rattle.ac_meaning.specs.Typed.{ValueTyped, ValuesTyped}
use Rattle.ac_round_trip.specs.Strings.{IsData}
use Rattle.ac_round_trip.proofs.DataTypes.{AreData, of_parts, of_first, of_item, of_content, no_data_function, data_head, first_of_all, rest_of_all}

module _ (F : Environment) where
  -- packed again, without brackets
  parts_again : (ws : PValues) (T : Typ) → IsData T → ((Ts : Typs) → AreData Ts → all_hold Coloured false F ws Ts ≡ true → bare_all_packed F (all_unpacked ws) Ts ≡ ws) →
      option_map_or (λ Ts. all_hold Coloured false F ws Ts) (tuple_parts T) false ≡ true → where_there (tuple_parts T) (λ Ts. KTuple (bare_all_packed F (all_unpacked ws) Ts)) ≡ KTuple ws
  parts_again ws (TTuple Ts) i go h = ap KTuple (go Ts (of_parts Ts i) h)
  parts_again ws _ i go h = absurd (true≢false (sym h))

  content_again : (w : PValue) (T : Typ) → IsData T → ((A : Typ) → IsData A → holds Coloured false F w A ≡ true → bare_packed F (unpacked w) A ≡ w) →
      option_map_or (λ A. holds Coloured false F w A) (option_item T) false ≡ true → where_there (option_item T) (λ A. KPresent (bare_packed F (unpacked w) A)) ≡ KPresent w
  content_again w (TOpt A) i go h = ap KPresent (go A (of_content A i) h)
  content_again w _ i go h = absurd (true≢false (sym h))

  items_again : (ws : PValues) (T : Typ) → IsData T → ((A : Typ) → IsData A → each_holds Coloured false F ws A ≡ true → bare_packed F (unpacked_list ws) (TList A) ≡ KList ws) →
      option_map_or (λ A. each_holds Coloured false F ws A) (list_item T) false ≡ true → bare_packed F (unpacked_list ws) T ≡ KList ws
  items_again ws (TList A) i go h = go A (of_item A i) h
  items_again ws _ i go h = absurd (true≢false (sym h))

  no_function : (T : Typ) → IsData T → is_function T ≡ true → ⊥
  no_function (TFun A B) i h = no_data_function A B i
  no_function _ i h = true≢false (sym h)

  mutual
    pub packed_again : (w : PValue) (T : Typ) → IsData T → holds Coloured false F w T ≡ true → bare_packed F (unpacked w) T ≡ w
    packed_again (KInt n) T i h = refl
    packed_again (KBool b) T i h = refl
    packed_again (KStr s) T i h = refl
    packed_again KUnit T i h = refl
    packed_again (KExn k s) T i h = refl
    packed_again (KTuple ws) T i h =
        ap (λ H. where_there (tuple_parts H) (λ Ts. KTuple (bare_all_packed F (all_unpacked ws) Ts))) (data_head F T i.no_name) ∙
        parts_again ws T i (λ Ts j k. all_packed_again ws Ts j k) (subst (λ H. option_map_or (λ Ts. all_hold Coloured false F ws Ts) (tuple_parts H) false ≡ true) (data_head F T i.no_name) h)
    packed_again (KList ws) T i h =
        items_again ws T i (λ A j k. each_packed_again ws A j k) (subst (λ H. option_map_or (λ A. each_holds Coloured false F ws A) (list_item H) false ≡ true) (data_head F T i.no_name) h)
    packed_again KAbsent T i h = refl
    packed_again (KPresent w) T i h =
        ap (λ H. where_there (option_item H) (λ A. KPresent (bare_packed F (unpacked w) A))) (data_head F T i.no_name) ∙
        content_again w T i (λ A j k. packed_again w A j k) (subst (λ H. option_map_or (λ A. holds Coloured false F w A) (option_item H) false ≡ true) (data_head F T i.no_name) h)
    packed_again (KFun c l) T i h = absurd (no_function T i (subst (λ H. is_function H ≡ true) (data_head F T i.no_name) (both_true _ _ (both_true _ _ h).0).0))

    all_packed_again : (ws : PValues) (Ts : Typs) → AreData Ts → all_hold Coloured false F ws Ts ≡ true → bare_all_packed F (all_unpacked ws) Ts ≡ ws
    all_packed_again no_pvalues no_types i h = refl
    all_packed_again no_pvalues (typ T Ts) i h = absurd (true≢false (sym h))
    all_packed_again (pvalue w ws) no_types i h = absurd (true≢false (sym h))
    all_packed_again (pvalue w ws) (typ T Ts) i h =
        let j = of_first T Ts i in
        let p = both_true (holds Coloured false F w T) (all_hold Coloured false F ws Ts) h in
        ap₂ pvalue (packed_again w T j.0 p.0) (all_packed_again ws Ts j.1 p.1)

    each_packed_again : (ws : PValues) (A : Typ) → IsData A → each_holds Coloured false F ws A ≡ true → bare_packed F (unpacked_list ws) (TList A) ≡ KList ws
    each_packed_again no_pvalues A i h = refl
    each_packed_again (pvalue w ws) A i h =
        let p = both_true (holds Coloured false F w A) (each_holds Coloured false F ws A) h in
        ap (λ H. in_front (where_there (list_item H) (λ U. bare_packed F (unpacked w) U)) (bare_packed F (unpacked_list ws) (TList A))) (data_head F (TList A) i.no_name) ∙
        ap₂ in_front (packed_again w A i p.0) (each_packed_again ws A i p.1)

-- in the main program, where no name is opened, the value is the same
module _ (E : Environment) where
  no_seals : (k : ℕ) (T : Typ) (make : Home → Typ → Value) → mentions T ≡ [] → sealed Coloured E k Main T make ≡ make Main T
  no_seals zero T make h = refl
  no_seals (suc k) (TAbs n t) make h = absurd cc
  no_seals (suc k) T make h = refl

  all_true : (xs : List (Bytes × Bytes)) → list_all (λ (p : Bytes × Bytes). true) xs ≡ true
  all_true [] = refl
  all_true (x ∷ xs) = all_true xs

  as_written : (T A : Typ) → T ≡ view Coloured E Main A → T ≡ A
  as_written T A h = h ∙ foreign_view E Main A (all_true (mentions A))

  abbrev Again : Value → Typ → Type 0
  Again v T = rebuilt Coloured E Main T (packed E Main v T) ≡ v

  -- a list is packed as a list
  record AsList (u : Value) (A : Typ) : Type 0 where
    items : PValues
    is_packed : packed E Main u (TList A) ≡ KList items
    again : list_rebuilt Coloured E Main (TList A) items ≡ u

  list_again : (u : Value) (A : Typ) → mentions A ≡ [] → AsList u A → Again u (TList A)
  list_again u A m l = ap (rebuilt Coloured E Main (TList A)) l.is_packed ∙ no_seals (length E) (TList A) (λ d U. list_rebuilt Coloured E d U l.items) m ∙ l.again

  nil_list : (B A : Typ) → TList A ≡ B → AsList (VNil B) A
  nil_list B A e = record { items = no_pvalues; is_packed = refl; again = ap VNil e }

  cons_list : (v u : Value) (A : Typ) → mentions A ≡ [] → Again v A → AsList u A → AsList (VCons v u) A
  cons_list v u A m p l = record {
    items = pvalue (packed E Main v A) l.items;
    is_packed = ap (λ H. in_front (where_there (list_item H) (λ U. packed E Main v U)) (packed E Main u (TList A))) (data_head E (TList A) m) ∙ ap (in_front (packed E Main v A)) l.is_packed;
    again = ap₂ VCons p l.again;
  }

  tuple_again : (vs : Values) (Ts : Typs) → mentions_of_all Ts ≡ [] → all_rebuilt Coloured E Main Ts (all_packed E Main vs Ts) ≡ vs → Again (VTuple vs) (TTuple Ts)
  tuple_again vs Ts m p =
      ap (λ H. rebuilt Coloured E Main (TTuple Ts) (where_there (tuple_parts H) (λ Us. KTuple (all_packed E Main vs Us)))) (data_head E (TTuple Ts) m) ∙
      no_seals (length E) (TTuple Ts) (λ d U. VTuple (all_rebuilt Coloured E d (parts_of U) (all_packed E Main vs Ts))) m ∙ ap VTuple p

  option_again : (v : Value) (A : Typ) → mentions A ≡ [] → Again v A → Again (VPresent v) (TOpt A)
  option_again v A m p =
      ap (λ H. rebuilt Coloured E Main (TOpt A) (where_there (option_item H) (λ U. KPresent (packed E Main v U)))) (data_head E (TOpt A) m) ∙
      no_seals (length E) (TOpt A) (λ d U. VPresent (rebuilt Coloured E d (item_of U) (packed E Main v A))) m ∙ ap VPresent p

  -- from the type that a value has
  at : (v : Value) (T U : Typ) → T ≡ U → Again v U → Again v T
  at v T U e p = subst (Again v) (sym e) p

  mutual
    pub main_again : (v : Value) (T : Typ) → IsData T → ValueTyped Coloured E v Main T → Again v T
    main_again (VInt n) T i t = no_seals (length E) T (λ d U. VInt n) i.no_name
    main_again (VBool b) T i t = no_seals (length E) T (λ d U. VBool b) i.no_name
    main_again (VStr s) T i t = no_seals (length E) T (λ d U. VStr s) i.no_name
    main_again VUnit T i t = no_seals (length E) T (λ d U. VUnit) i.no_name
    main_again (VExn k s) T i t = no_seals (length E) T (λ d U. VExn k s) i.no_name
    main_again (VTuple vs) T i t =
        let j = of_parts t.0 (subst IsData t.1 i) in
        at (VTuple vs) T (TTuple t.0) t.1 (tuple_again vs t.0 j.no_name (all_main_again vs t.0 j t.2))
    main_again (VNil B) T i t =
        let j = of_item t.0 (subst IsData t.1 i) in
        at (VNil B) T (TList t.0) t.1 (list_again (VNil B) t.0 j.no_name (nil_list B t.0 (sym t.1 ∙ as_written T B t.2)))
    main_again (VCons v u) T i t =
        let j = of_item t.0 (subst IsData t.1 i) in
        at (VCons v u) T (TList t.0) t.1 (list_again (VCons v u) t.0 j.no_name (cons_list v u t.0 j.no_name (main_again v t.0 j t.2) (is_list u t.0 j t.3)))
    main_again (VAbsent B) T i t = no_seals (length E) T (λ d U. VAbsent U) i.no_name ∙ ap VAbsent (as_written T B t.2)
    main_again (VPresent v) T i t =
        let j = of_content t.0 (subst IsData t.1 i) in
        at (VPresent v) T (TOpt t.0) t.1 (option_again v t.0 j.no_name (main_again v t.0 j t.2))
    main_again (VLam A e) T i t = absurd (no_data_function _ _ (subst IsData t.1 i))
    main_again (VRec A B e) T i t = absurd (no_data_function _ _ (subst IsData t.0 i))
    main_again (VProxy b A B v) T i t = absurd (no_data_function _ _ (subst IsData t.0 i))
    main_again (VSeal b n u v) T i t = let m : mentions (TAbs n u) ≡ [] = (subst IsData t.0 i).no_name in absurd cc

    is_list : (u : Value) (A : Typ) → IsData A → ValueTyped Coloured E u Main (TList A) → AsList u A
    is_list (VNil B) A i t = nil_list B A (as_written (TList A) B t.2)
    is_list (VCons v u) A i t =
        let e : A ≡ t.0 = ap item_of t.1 in
        cons_list v u A i.no_name (main_again v A i (subst (ValueTyped Coloured E v Main) (sym e) t.2)) (is_list u A i (subst (λ B. ValueTyped Coloured E u Main (TList B)) (sym e) t.3))
    is_list (VTuple vs) A i t = let e = t.1 in absurd cc
    is_list (VAbsent B) A i t = let e = t.1 in absurd cc
    is_list (VPresent v) A i t = let e = t.1 in absurd cc
    is_list (VLam B e) A i t = let q = t.1 in absurd cc
    is_list (VRec B U e) A i t = let q = t.0 in absurd cc
    is_list (VProxy b B U v) A i t = let q = t.0 in absurd cc
    is_list (VSeal b n x v) A i t = let q = t.0 in absurd cc
    is_list (VInt n) A i t = absurd cc
    is_list (VBool b) A i t = absurd cc
    is_list (VStr s) A i t = absurd cc
    is_list VUnit A i t = absurd cc
    is_list (VExn k s) A i t = absurd cc

    all_main_again : (vs : Values) (Ts : Typs) → AreData Ts → ValuesTyped Coloured E vs Main Ts → all_rebuilt Coloured E Main Ts (all_packed E Main vs Ts) ≡ vs
    all_main_again no_values no_types i t = refl
    all_main_again no_values (typ T Ts) i t = absurd cc
    all_main_again (value v vs) no_types i t = let e = t.2 in absurd cc
    all_main_again (value v vs) (typ T Ts) i t =
        let j = of_first T Ts i in
        let e : T ≡ t.0 = ap first_of_all t.2 in
        let r : Ts ≡ t.1 = ap rest_of_all t.2 in
        ap₂ value (main_again v T j.0 (subst (ValueTyped Coloured E v Main) (sym e) t.3)) (all_main_again vs Ts j.1 (subst (ValuesTyped Coloured E vs Main) (sym r) t.4))
