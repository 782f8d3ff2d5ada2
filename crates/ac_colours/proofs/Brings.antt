-- What unmarshal writes tells nothing but what the packed value says at its type.
use Rattle.std.proofs.Common.{◌≡◌, refl, sym, ap, ap₂, ◌∙◌, subst, ℕ, zero, suc, ◌+◌, Bool, true, false, length, Option, Some}
use Rattle.std.specs.Prelude.{option_and_then}
use Rattle.std.specs.List.{list_all}
use mathlib.Core.Bool.{true≢false}
use native.Mathlib.Omega.{arith}
use Rattle.ac_types.proofs.Same.{both_true, and_true}
use Rattle.ac_types.proofs.FirstLaws.{some_eq, given_some}
use Rattle.ac_types.specs.Types.{Bytes, Typ, TInt, TBool, TStr, TUnit, TExn, TTuple, TList, TOpt, TFun, TAbs, TMine, Typs, no_types, typ, has_function, have_function, mentions, mentions_of_all}
use Rattle.ac_terms.specs.Terms.{Home, Main, In, Expr, ExnOf, Tuple, Present, Cons, Lam, Rec, App, Let, If, Seq, Match, Try, Raise, Prim, Marshal, Unmarshal, Val, Evaluated, Bracket, Exprs, no_exprs, expr, Arms, no_arms, arm, PValue, KInt, KBool, KStr, KUnit, KExn, KTuple, KList, KAbsent, KPresent, KFun, PValues, no_pvalues, pvalue, Value, VInt, VBool, VStr, VUnit, VExn, VTuple, VAbsent, VPresent, VLam, VRec, VProxy}
use Rattle.ac_terms.specs.Defs.{Environment, find_name, names, Entry}
use Rattle.ac_rules.specs.Views.{Plain, Coloured, view, bare, opened, opens, unsealed, head, rounds, is_known, are_known, has_name}
use Rattle.ac_rules.specs.Typing.{tuple_parts, list_item, option_item}
use Rattle.ac_rules.specs.Plain.{where_there, in_front, packed, all_packed, all_travel}
use Rattle.ac_rules.specs.Coherent.{IsCoherent}
use Rattle.ac_terms.proofs.AllLaws.{all_left, all_right}
use Rattle.ac_rules.proofs.EarlierLaws.{found_keeps}
use Rattle.ac_rules.proofs.BareLaws.{known_has}
use Rattle.ac_meaning.specs.Rebuilding.{parts_of, item_of, argument_of, result_of, home_of_name, at_abstract, sealed, rebuilt, all_rebuilt, list_rebuilt, rebuilt_term, rebuilt_terms, rebuilt_arms}
use Rattle.ac_rules.proofs.KnownTypes.{rounds_still, opened_known, rounds_known, head_known}
use Rattle.ac_meaning.proofs.Homes.{all_seen, sees_own, view_again}
use Rattle.ac_colours.specs.Sealed.{Sealed, AllSealed, ArmsSealed, ValueSealed, ValuesSealed}
use Rattle.ac_colours.proofs.Telling.{Flat, AllFlat, flat_tuple, flat_list, flat_opt, flat_fun, or_left, or_right}
use Rattle.ac_colours.proofs.Says.{OfBirth, Here, SaidAt, Said, AllSaid, EachSaid, TermSaid, TermsSaid, ArmsSaid, Told, round_settled, whole}
use Rattle.ac_colours.proofs.Ground.{Before, before_further, opened_before}

module _ (E : Environment) where
  -- a packed value has the form that its type wants, and so has each captured value in it
  abbrev mutual
    pub Sits : Typ → PValue → Type 0
    Sits T (KTuple vs) = (Ts : Typs) × (head E T ≡ TTuple Ts) × AllSit Ts vs
    Sits T (KList vs) = (A : Typ) × (head E T ≡ TList A) × EachSits A vs
    Sits T (KPresent v) = (A : Typ) × (head E T ≡ TOpt A) × Sits A v
    Sits T (KFun h l) = (A B : Typ) × (head E T ≡ TFun A B) × TermSits l
    Sits T w = Unit {0}

    pub AllSit : Typs → PValues → Type 0
    AllSit no_types no_pvalues = Unit {0}
    AllSit (typ T Ts) (pvalue v vs) = Sits T v × AllSit Ts vs
    AllSit no_types (pvalue v vs) = ⊥
    AllSit (typ T Ts) no_pvalues = ⊥

    pub EachSits : Typ → PValues → Type 0
    EachSits T no_pvalues = Unit {0}
    EachSits T (pvalue v vs) = Sits T v × EachSits T vs

    pub TermSits : Expr → Type 0
    TermSits (ExnOf k e) = TermSits e
    TermSits (Tuple es) = TermsSit es
    TermSits (Present e) = TermSits e
    TermSits (Cons a b) = TermSits a × TermSits b
    TermSits (Lam T e) = TermSits e
    TermSits (Rec T U e) = TermSits e
    TermSits (App f a) = TermSits f × TermSits a
    TermSits (Let T e b) = TermSits e × TermSits b
    TermSits (If c a b) = TermSits c × TermSits a × TermSits b
    TermSits (Seq es) = TermsSit es
    TermSits (Match e arms) = TermSits e × ArmsSit arms
    TermSits (Try e arms) = TermSits e × ArmsSit arms
    TermSits (Raise T e) = TermSits e
    TermSits (Prim k es) = TermsSit es
    TermSits (Marshal T m e) = TermSits m × TermSits e
    TermSits (Unmarshal T e) = TermSits e
    TermSits (Val T v) = (are_known E T ≡ true) × Sits T v
    TermSits (Evaluated T v) = ⊥
    TermSits (Bracket b T e) = ⊥
    TermSits e = Unit {0}

    pub TermsSit : Exprs → Type 0
    TermsSit no_exprs = Unit {0}
    TermsSit (expr e es) = TermSits e × TermsSit es

    pub ArmsSit : Arms → Type 0
    ArmsSit no_arms = Unit {0}
    ArmsSit (arm p e rest) = TermSits e × ArmsSit rest

  -- a seal's value is packed as what is inside
  packed_sealed : (k : ℕ) (c : Home) (T : Typ) (make : Home → Typ → Value) (U : Typ) (w : PValue) → ((d : Home) → packed E d (make d (rounds k (unsealed E) T)) U ≡ w) → packed E c (sealed Coloured E k c T make) U ≡ w
  packed_sealed zero c T make U w h = h c
  packed_sealed (suc k) c (TAbs n t) make U w h = by (λ d. packed_sealed k d (opened E n t) make U w h) (opens Coloured E c n)
    where
      by : ((d : Home) → packed E d (sealed Coloured E k d (opened E n t) make) U ≡ w) → (b : Bool) → packed E c (at_abstract Coloured E b c n t (λ d R. sealed Coloured E k d R make)) U ≡ w
      by f true = f c
      by f false = f (home_of_name Coloured E n)
  packed_sealed (suc k) c TInt make U w h = ap (λ X. packed E c (make c X) U) (sym (rounds_still k (unsealed E) TInt refl)) ∙ h c
  packed_sealed (suc k) c TBool make U w h = ap (λ X. packed E c (make c X) U) (sym (rounds_still k (unsealed E) TBool refl)) ∙ h c
  packed_sealed (suc k) c TStr make U w h = ap (λ X. packed E c (make c X) U) (sym (rounds_still k (unsealed E) TStr refl)) ∙ h c
  packed_sealed (suc k) c TUnit make U w h = ap (λ X. packed E c (make c X) U) (sym (rounds_still k (unsealed E) TUnit refl)) ∙ h c
  packed_sealed (suc k) c TExn make U w h = ap (λ X. packed E c (make c X) U) (sym (rounds_still k (unsealed E) TExn refl)) ∙ h c
  packed_sealed (suc k) c (TTuple Ts) make U w h = ap (λ X. packed E c (make c X) U) (sym (rounds_still k (unsealed E) (TTuple Ts) refl)) ∙ h c
  packed_sealed (suc k) c (TList T) make U w h = ap (λ X. packed E c (make c X) U) (sym (rounds_still k (unsealed E) (TList T) refl)) ∙ h c
  packed_sealed (suc k) c (TOpt T) make U w h = ap (λ X. packed E c (make c X) U) (sym (rounds_still k (unsealed E) (TOpt T) refl)) ∙ h c
  packed_sealed (suc k) c (TFun T S) make U w h = ap (λ X. packed E c (make c X) U) (sym (rounds_still k (unsealed E) (TFun T S) refl)) ∙ h c
  packed_sealed (suc k) c (TMine t) make U w h = ap (λ X. packed E c (make c X) U) (sym (rounds_still k (unsealed E) (TMine t) refl)) ∙ h c

  -- no function
  abbrev mutual
    pub IsFlat : PValue → Type 0
    IsFlat (KTuple vs) = AreFlat vs
    IsFlat (KList vs) = AreFlat vs
    IsFlat (KPresent v) = IsFlat v
    IsFlat (KFun h l) = ⊥
    IsFlat w = Unit {0}

    pub AreFlat : PValues → Type 0
    AreFlat no_pvalues = Unit {0}
    AreFlat (pvalue v vs) = IsFlat v × AreFlat vs

  -- what is rebuilt of first-order data is packed as it was
  mutual
    pub packed_rebuilt : (w : PValue) (c : Home) (T : Typ) → IsFlat w → Sits T w → packed E c (rebuilt Coloured E c T w) T ≡ w
    packed_rebuilt (KTuple vs) c T f s = packed_sealed (length E) c T (λ d U. VTuple (all_rebuilt Coloured E d (parts_of U) vs)) T (KTuple vs) (λ d.
        ap (λ X. where_there (tuple_parts X) (λ Ts. KTuple (all_packed E d (all_rebuilt Coloured E d (parts_of X) vs) Ts))) s.1 ∙ ap KTuple (all_packed_rebuilt vs d s.0 f s.2))
    packed_rebuilt (KList vs) c T f s = packed_sealed (length E) c T (λ d U. list_rebuilt Coloured E d U vs) T (KList vs) (λ d. list_made vs d T s.0 s.1 f s.2)
    packed_rebuilt (KPresent v) c T f s = packed_sealed (length E) c T (λ d U. VPresent (rebuilt Coloured E d (item_of U) v)) T (KPresent v) (λ d.
        ap (λ X. where_there (option_item X) (λ A. KPresent (packed E d (rebuilt Coloured E d (item_of X) v) A))) s.1 ∙ ap KPresent (packed_rebuilt v d s.0 f s.2))
    packed_rebuilt (KFun h l) c T f s = absurd f
    packed_rebuilt (KInt i) c T f s = packed_sealed (length E) c T (λ d U. VInt i) T (KInt i) (λ d. refl)
    packed_rebuilt (KBool i) c T f s = packed_sealed (length E) c T (λ d U. VBool i) T (KBool i) (λ d. refl)
    packed_rebuilt (KStr i) c T f s = packed_sealed (length E) c T (λ d U. VStr i) T (KStr i) (λ d. refl)
    packed_rebuilt KUnit c T f s = packed_sealed (length E) c T (λ d U. VUnit) T KUnit (λ d. refl)
    packed_rebuilt (KExn i j) c T f s = packed_sealed (length E) c T (λ d U. VExn i j) T (KExn i j) (λ d. refl)
    packed_rebuilt KAbsent c T f s = packed_sealed (length E) c T (λ d U. VAbsent U) T KAbsent (λ d. refl)

    all_packed_rebuilt : (vs : PValues) (c : Home) (Ts : Typs) → AreFlat vs → AllSit Ts vs → all_packed E c (all_rebuilt Coloured E c Ts vs) Ts ≡ vs
    all_packed_rebuilt no_pvalues c no_types f s = refl
    all_packed_rebuilt (pvalue v vs) c (typ T Ts) f s = ap₂ pvalue (packed_rebuilt v c T f.0 s.0) (all_packed_rebuilt vs c Ts f.1 s.1)
    all_packed_rebuilt no_pvalues c (typ T Ts) f s = absurd s
    all_packed_rebuilt (pvalue v vs) c no_types f s = absurd s

    list_made : (vs : PValues) (d : Home) (T A : Typ) → head E T ≡ TList A → AreFlat vs → EachSits A vs → packed E d (list_rebuilt Coloured E d (head E T) vs) T ≡ KList vs
    list_made no_pvalues d T A h f s = refl
    list_made (pvalue v vs) d T A h f s =
        ap₂ in_front (ap (λ X. where_there (list_item X) (λ U. packed E d (rebuilt Coloured E d (item_of X) v) U)) h ∙ packed_rebuilt v d A f.0 s.0) (list_made vs d T A h f.1 s.1)

  module _ (coherent : IsCoherent E) where
    keeps_own : (n : Bytes) (i : ℕ) → find_name E n ≡ Some i → has_name E (In i) n ≡ true
    keeps_own n i f = let e = found_keeps E n i f in ap (λ (o : Option Entry). names (option_and_then (λ (x : Entry). x.name) o) n) e.1 ∙ e.2

    -- the bare type stays as the outermost abstract types are opened
    pub bare_opened : (n t : Bytes) → is_known E (n, t) ≡ true → bare E (opened E n t) ≡ bare E (TAbs n t)
    bare_opened n t k =
        let r = known_has E coherent n t k in
        ap (bare E) (sym (sees_own E (In r.0) n t (keeps_own n r.0 r.2))) ∙ view_again E coherent Plain (In r.0) (TAbs n t) (and_true {a = is_known E (n, t)} {b = true} k refl)

    bare_unsealed : (T : Typ) → are_known E T ≡ true → bare E (unsealed E T) ≡ bare E T
    bare_unsealed (TAbs n t) k = bare_opened n t (both_true (is_known E (n, t)) true k).0
    bare_unsealed TInt k = refl
    bare_unsealed TBool k = refl
    bare_unsealed TStr k = refl
    bare_unsealed TUnit k = refl
    bare_unsealed TExn k = refl
    bare_unsealed (TTuple Ts) k = refl
    bare_unsealed (TList A) k = refl
    bare_unsealed (TOpt A) k = refl
    bare_unsealed (TFun A B) k = refl
    bare_unsealed (TMine u) k = refl

    pub bare_rounds : (j : ℕ) (T : Typ) → are_known E T ≡ true → bare E (rounds j (unsealed E) T) ≡ bare E T
    bare_rounds zero T k = refl
    bare_rounds (suc j) T k = bare_rounds j (unsealed E T) (rounds_known E coherent 1 T k) ∙ bare_unsealed T k

    -- what has a first-order type has no function
    mutual
      pub flat_data : (w : PValue) (T : Typ) → are_known E T ≡ true → Flat E coherent T → Sits T w → IsFlat w
      flat_data (KTuple vs) T k f s = all_flat_data vs s.0 (subst (λ X. are_known E X ≡ true) s.1 (head_known E coherent T k)) (flat_tuple E coherent s.0 (subst (Flat E coherent) s.1 (ap has_function (bare_rounds (length E) T k) ∙ f))) s.2
      flat_data (KList vs) T k f s = each_flat_data vs s.0 (subst (λ X. are_known E X ≡ true) s.1 (head_known E coherent T k)) (flat_list E coherent s.0 (subst (Flat E coherent) s.1 (ap has_function (bare_rounds (length E) T k) ∙ f))) s.2
      flat_data (KPresent v) T k f s = flat_data v s.0 (subst (λ X. are_known E X ≡ true) s.1 (head_known E coherent T k)) (flat_opt E coherent s.0 (subst (Flat E coherent) s.1 (ap has_function (bare_rounds (length E) T k) ∙ f))) s.2
      flat_data (KFun h l) T k f s = flat_fun E coherent s.0 s.1 (subst (Flat E coherent) s.2 (ap has_function (bare_rounds (length E) T k) ∙ f))
      flat_data _ T k f s = tt

      all_flat_data : (vs : PValues) (Ts : Typs) → list_all (is_known E) (mentions_of_all Ts) ≡ true → AllFlat E coherent Ts → AllSit Ts vs → AreFlat vs
      all_flat_data no_pvalues Ts k f s = tt
      all_flat_data (pvalue v vs) (typ T Ts) k f s =
          (flat_data v T (all_left (is_known E) (mentions T) (mentions_of_all Ts) k) (or_left E coherent (has_function (view Plain E Main T)) (have_function (all_seen E Plain Main Ts)) f) s.0, all_flat_data vs Ts (all_right (is_known E) (mentions T) (mentions_of_all Ts) k) (or_right E coherent (has_function (view Plain E Main T)) (have_function (all_seen E Plain Main Ts)) f) s.1)
      all_flat_data (pvalue v vs) no_types k f s = absurd s

      each_flat_data : (vs : PValues) (A : Typ) → are_known E A ≡ true → Flat E coherent A → EachSits A vs → AreFlat vs
      each_flat_data no_pvalues A k f s = tt
      each_flat_data (pvalue v vs) A k f s = (flat_data v A k f s.0, each_flat_data vs A k f s.1)

    heads_same : (j k : ℕ) (T : Typ) → Before E coherent k T → rounds (j + k) (unsealed E) T ≡ rounds k (unsealed E) T
    heads_same zero k T b = let e : 0 + k ≡ k = omega arith in ap (λ i. rounds i (unsealed E) T) e
    heads_same (suc j) k T b = let e : suc j + k ≡ suc (j + k) = omega arith in ap (λ i. rounds i (unsealed E) T) e ∙ round_settled E (λ n t w. Unit {0}) coherent T (j + k) (before_further E coherent k (j + k) T (omega arith) b) ∙ heads_same j k T b

    module _ (K : OfBirth) where
      seal_told : (h : Home) (n t : Bytes) (v : Value) (w : PValue) → Here E K n t w → (has_function (bare E (TAbs n t)) ≡ false → packed E h v (opened E n t) ≡ w) → Told E K h n t v
      seal_told h n t v w k p w' f q =
          let e = given_some (all_travel (packed E h v (opened E n t))) (Some (packed E h v (opened E n t))) q in
          let same : w ≡ w' = sym (p f) ∙ some_eq e.1 in
          subst (K n t) same (k f (ap all_travel (sym (p f)) ∙ e.0))

      sealed_told : (k j : ℕ) (c : Home) (T : Typ) (make : Home → Typ → Value) (w : PValue) (go : Typ → Type 0) → j + k ≡ length E → Before E coherent k T → are_known E T ≡ true → SaidAt E K T k w go →
          (Flat E coherent (rounds k (unsealed E) T) → (d : Home) (X : Typ) → head E X ≡ rounds k (unsealed E) T → packed E d (make d (rounds k (unsealed E) T)) X ≡ w) →
          ((d : Home) → go (rounds k (unsealed E) T) → ValueSealed (Told E K) (make d (rounds k (unsealed E) T))) → ValueSealed (Told E K) (sealed Coloured E k c T make)
      sealed_told zero j c (TAbs n t) make w go q b kn s p g = absurd (true≢false (sym (both_true _ true b).0))
      sealed_told zero j c TInt make w go q b kn s p g = g c s
      sealed_told zero j c TBool make w go q b kn s p g = g c s
      sealed_told zero j c TStr make w go q b kn s p g = g c s
      sealed_told zero j c TUnit make w go q b kn s p g = g c s
      sealed_told zero j c TExn make w go q b kn s p g = g c s
      sealed_told zero j c (TTuple Ts) make w go q b kn s p g = g c s
      sealed_told zero j c (TList A) make w go q b kn s p g = g c s
      sealed_told zero j c (TOpt A) make w go q b kn s p g = g c s
      sealed_told zero j c (TFun A B) make w go q b kn s p g = g c s
      sealed_told zero j c (TMine u) make w go q b kn s p g = g c s
      sealed_told (suc k) j c (TAbs n t) make w go q b kn s p g = by (λ d. sealed_told k (suc j) d R make w go (omega arith) below known' s.1 p g) (opens Coloured E c n)
        where
          R : Typ
          R = opened E n t

          below : Before E coherent k R
          below = opened_before E coherent n t k b

          here : is_known E (n, t) ≡ true
          here = (both_true (is_known E (n, t)) true kn).0

          known' : are_known E R ≡ true
          known' = opened_known E coherent n t here

          top : head E R ≡ rounds k (unsealed E) R
          top = let l : length E ≡ suc j + k = omega arith in ap (λ i. rounds i (unsealed E) R) l ∙ heads_same (suc j) k R below

          told_here : (h : Home) → Told E K h n t (sealed Coloured E k h R make)
          told_here h = seal_told h n t (sealed Coloured E k h R make) w s.0 (λ f. packed_sealed k h R make R w (λ d. p (ap has_function (bare_rounds k R known' ∙ bare_opened n t here) ∙ f) d R top))

          by : ((d : Home) → ValueSealed (Told E K) (sealed Coloured E k d R make)) → (x : Bool) → ValueSealed (Told E K) (at_abstract Coloured E x c n t (λ d U. sealed Coloured E k d U make))
          by f true = f c
          by f false = (told_here (home_of_name Coloured E n), f (home_of_name Coloured E n))
      sealed_told (suc k) j c TInt make w go q b kn s p g = subst (λ X. ValueSealed (Told E K) (make c X)) (rounds_still k (unsealed E) TInt refl) (g c (subst go (sym (rounds_still k (unsealed E) TInt refl)) s))
      sealed_told (suc k) j c TBool make w go q b kn s p g = subst (λ X. ValueSealed (Told E K) (make c X)) (rounds_still k (unsealed E) TBool refl) (g c (subst go (sym (rounds_still k (unsealed E) TBool refl)) s))
      sealed_told (suc k) j c TStr make w go q b kn s p g = subst (λ X. ValueSealed (Told E K) (make c X)) (rounds_still k (unsealed E) TStr refl) (g c (subst go (sym (rounds_still k (unsealed E) TStr refl)) s))
      sealed_told (suc k) j c TUnit make w go q b kn s p g = subst (λ X. ValueSealed (Told E K) (make c X)) (rounds_still k (unsealed E) TUnit refl) (g c (subst go (sym (rounds_still k (unsealed E) TUnit refl)) s))
      sealed_told (suc k) j c TExn make w go q b kn s p g = subst (λ X. ValueSealed (Told E K) (make c X)) (rounds_still k (unsealed E) TExn refl) (g c (subst go (sym (rounds_still k (unsealed E) TExn refl)) s))
      sealed_told (suc k) j c (TTuple Ts) make w go q b kn s p g = subst (λ X. ValueSealed (Told E K) (make c X)) (rounds_still k (unsealed E) (TTuple Ts) refl) (g c (subst go (sym (rounds_still k (unsealed E) (TTuple Ts) refl)) s))
      sealed_told (suc k) j c (TList A) make w go q b kn s p g = subst (λ X. ValueSealed (Told E K) (make c X)) (rounds_still k (unsealed E) (TList A) refl) (g c (subst go (sym (rounds_still k (unsealed E) (TList A) refl)) s))
      sealed_told (suc k) j c (TOpt A) make w go q b kn s p g = subst (λ X. ValueSealed (Told E K) (make c X)) (rounds_still k (unsealed E) (TOpt A) refl) (g c (subst go (sym (rounds_still k (unsealed E) (TOpt A) refl)) s))
      sealed_told (suc k) j c (TFun A B) make w go q b kn s p g = subst (λ X. ValueSealed (Told E K) (make c X)) (rounds_still k (unsealed E) (TFun A B) refl) (g c (subst go (sym (rounds_still k (unsealed E) (TFun A B) refl)) s))
      sealed_told (suc k) j c (TMine u) make w go q b kn s p g = subst (λ X. ValueSealed (Told E K) (make c X)) (rounds_still k (unsealed E) (TMine u) refl) (g c (subst go (sym (rounds_still k (unsealed E) (TMine u) refl)) s))

      at_none : 0 + length E ≡ length E
      at_none = omega arith

      flat_head : (T : Typ) → are_known E T ≡ true → Flat E coherent (head E T) → Flat E coherent T
      flat_head T k f = ap has_function (sym (bare_rounds (length E) T k)) ∙ f

      known_as : (T X : Typ) → head E T ≡ X → are_known E T ≡ true → are_known E X ≡ true
      known_as T X q k = subst (λ Y. are_known E Y ≡ true) q (head_known E coherent T k)

      mutual
        -- what unmarshal writes tells nothing but what the packed value says
        pub rebuilt_told : (w : PValue) (c : Home) (T : Typ) → are_known E T ≡ true → Sits T w → Said E K T w → ValueSealed (Told E K) (rebuilt Coloured E c T w)
        rebuilt_told (KInt i) c T k t s = sealed_told (length E) 0 c T (λ d U. VInt i) (KInt i) (λ U. Unit {0}) at_none (whole E K coherent T k) k s (λ f d X h. refl) (λ d g. tt)
        rebuilt_told (KBool i) c T k t s = sealed_told (length E) 0 c T (λ d U. VBool i) (KBool i) (λ U. Unit {0}) at_none (whole E K coherent T k) k s (λ f d X h. refl) (λ d g. tt)
        rebuilt_told (KStr i) c T k t s = sealed_told (length E) 0 c T (λ d U. VStr i) (KStr i) (λ U. Unit {0}) at_none (whole E K coherent T k) k s (λ f d X h. refl) (λ d g. tt)
        rebuilt_told KUnit c T k t s = sealed_told (length E) 0 c T (λ d U. VUnit) KUnit (λ U. Unit {0}) at_none (whole E K coherent T k) k s (λ f d X h. refl) (λ d g. tt)
        rebuilt_told (KExn i j) c T k t s = sealed_told (length E) 0 c T (λ d U. VExn i j) (KExn i j) (λ U. Unit {0}) at_none (whole E K coherent T k) k s (λ f d X h. refl) (λ d g. tt)
        rebuilt_told KAbsent c T k t s = sealed_told (length E) 0 c T (λ d U. VAbsent U) KAbsent (λ U. Unit {0}) at_none (whole E K coherent T k) k s (λ f d X h. refl) (λ d g. tt)
        rebuilt_told (KTuple vs) c T k t s =
            sealed_told (length E) 0 c T (λ d U. VTuple (all_rebuilt Coloured E d (parts_of U) vs)) (KTuple vs) (λ U. AllSaid E K (parts_of U) vs) at_none (whole E K coherent T k) k s
            (λ f d X h.
            ap (λ Y. where_there (tuple_parts Y) (λ Ts. KTuple (all_packed E d (all_rebuilt Coloured E d (parts_of (head E T)) vs) Ts))) h ∙
            ap (λ Y. where_there (tuple_parts Y) (λ Ts. KTuple (all_packed E d (all_rebuilt Coloured E d (parts_of Y) vs) Ts))) t.1 ∙
            ap KTuple (all_packed_rebuilt vs d t.0 (flat_data (KTuple vs) T k (flat_head T k f) t) t.2))
            (λ d g. subst (λ Y. ValuesSealed (Told E K) (all_rebuilt Coloured E d (parts_of Y) vs)) (sym t.1) (all_rebuilt_told vs d t.0 (known_as T (TTuple t.0) t.1 k) t.2 (subst (λ Y. AllSaid E K (parts_of Y) vs) t.1 g)))
        rebuilt_told (KList vs) c T k t s =
            sealed_told (length E) 0 c T (λ d U. list_rebuilt Coloured E d U vs) (KList vs) (λ U. EachSaid E K (item_of U) vs) at_none (whole E K coherent T k) k s
            (λ f d X h. subst (λ Y. packed E d (list_rebuilt Coloured E d Y vs) X ≡ KList vs) h (list_made vs d X t.0 (h ∙ t.1) (flat_data (KList vs) T k (flat_head T k f) t) t.2))
            (λ d g. subst (λ Y. ValueSealed (Told E K) (list_rebuilt Coloured E d Y vs)) (sym t.1) (list_told vs d t.0 (known_as T (TList t.0) t.1 k) t.2 (subst (λ Y. EachSaid E K (item_of Y) vs) t.1 g)))
        rebuilt_told (KPresent v) c T k t s =
            sealed_told (length E) 0 c T (λ d U. VPresent (rebuilt Coloured E d (item_of U) v)) (KPresent v) (λ U. Said E K (item_of U) v) at_none (whole E K coherent T k) k s
            (λ f d X h.
            ap (λ Y. where_there (option_item Y) (λ A. KPresent (packed E d (rebuilt Coloured E d (item_of (head E T)) v) A))) h ∙
            ap (λ Y. where_there (option_item Y) (λ A. KPresent (packed E d (rebuilt Coloured E d (item_of Y) v) A))) t.1 ∙
            ap KPresent (packed_rebuilt v d t.0 (flat_data (KPresent v) T k (flat_head T k f) t) t.2))
            (λ d g. subst (λ Y. ValueSealed (Told E K) (rebuilt Coloured E d (item_of Y) v)) (sym t.1) (rebuilt_told v d t.0 (known_as T (TOpt t.0) t.1 k) t.2 (subst (λ Y. Said E K (item_of Y) v) t.1 g)))
        rebuilt_told (KFun h (Lam A e)) c T k t s =
            sealed_told (length E) 0 c T (λ d U. VProxy h (argument_of U) (result_of U) (VLam A (rebuilt_term Coloured E h e))) (KFun h (Lam A e)) (λ U. TermSaid E K e) at_none (whole E K coherent T k) k s
            (λ f d X q. absurd (flat_data (KFun h (Lam A e)) T k (flat_head T k f) t)) (λ d g. term_told e h t.3 g)
        rebuilt_told (KFun h (Rec A B e)) c T k t s =
            sealed_told (length E) 0 c T (λ d U. VProxy h (argument_of U) (result_of U) (VRec A B (rebuilt_term Coloured E h e))) (KFun h (Rec A B e)) (λ U. TermSaid E K e) at_none (whole E K coherent T k) k s
            (λ f d X q. absurd (flat_data (KFun h (Rec A B e)) T k (flat_head T k f) t)) (λ d g. term_told e h t.3 g)
        rebuilt_told (KFun h _) c T k t s = tt

        all_rebuilt_told : (vs : PValues) (c : Home) (Ts : Typs) → list_all (is_known E) (mentions_of_all Ts) ≡ true → AllSit Ts vs → AllSaid E K Ts vs → ValuesSealed (Told E K) (all_rebuilt Coloured E c Ts vs)
        all_rebuilt_told no_pvalues c no_types k t s = tt
        all_rebuilt_told (pvalue v vs) c (typ T Ts) k t s = (rebuilt_told v c T (all_left (is_known E) (mentions T) (mentions_of_all Ts) k) t.0 s.0, all_rebuilt_told vs c Ts (all_right (is_known E) (mentions T) (mentions_of_all Ts) k) t.1 s.1)
        all_rebuilt_told no_pvalues c (typ T Ts) k t s = absurd t
        all_rebuilt_told (pvalue v vs) c no_types k t s = absurd t

        list_told : (vs : PValues) (c : Home) (A : Typ) → are_known E A ≡ true → EachSits A vs → EachSaid E K A vs → ValueSealed (Told E K) (list_rebuilt Coloured E c (TList A) vs)
        list_told no_pvalues c A k t s = tt
        list_told (pvalue v vs) c A k t s = (rebuilt_told v c A k t.0 s.0, list_told vs c A k t.1 s.1)

        term_told : (e : Expr) (h : Home) → TermSits e → TermSaid E K e → Sealed (Told E K) (rebuilt_term Coloured E h e)
        term_told (ExnOf k e) h t s = term_told e h t s
        term_told (Tuple es) h t s = terms_told es h t s
        term_told (Present e) h t s = term_told e h t s
        term_told (Cons a b) h t s = (term_told a h t.0 s.0, term_told b h t.1 s.1)
        term_told (Lam T e) h t s = term_told e h t s
        term_told (Rec T U e) h t s = term_told e h t s
        term_told (App f a) h t s = (term_told f h t.0 s.0, term_told a h t.1 s.1)
        term_told (Let T e b) h t s = (term_told e h t.0 s.0, term_told b h t.1 s.1)
        term_told (If e a b) h t s = (term_told e h t.0 s.0, term_told a h t.1 s.1, term_told b h t.2 s.2)
        term_told (Seq es) h t s = terms_told es h t s
        term_told (Match e arms) h t s = (term_told e h t.0 s.0, arms_told arms h t.1 s.1)
        term_told (Try e arms) h t s = (term_told e h t.0 s.0, arms_told arms h t.1 s.1)
        term_told (Raise T e) h t s = term_told e h t s
        term_told (Prim k es) h t s = terms_told es h t s
        term_told (Marshal T m e) h t s = (term_told m h t.0 s.0, term_told e h t.1 s.1)
        term_told (Unmarshal T e) h t s = term_told e h t s
        term_told (Val T v) h t s = rebuilt_told v h T t.0 t.1 s
        term_told (Evaluated T v) h t s = absurd t
        term_told (Bracket b T e) h t s = absurd t
        term_told _ h t s = tt

        terms_told : (es : Exprs) (h : Home) → TermsSit es → TermsSaid E K es → AllSealed (Told E K) (rebuilt_terms Coloured E h es)
        terms_told no_exprs h t s = tt
        terms_told (expr e es) h t s = (term_told e h t.0 s.0, terms_told es h t.1 s.1)

        arms_told : (arms : Arms) (h : Home) → ArmsSit arms → ArmsSaid E K arms → ArmsSealed (Told E K) (rebuilt_arms Coloured E h arms)
        arms_told no_arms h t s = tt
        arms_told (arm p e rest) h t s = (term_told e h t.0 s.0, arms_told rest h t.1 s.1)
