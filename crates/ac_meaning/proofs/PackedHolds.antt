-- The packed value of a typed value is of its type, where it is within the bounds of its spelling: so what marshal packs can be packed.
use Rattle.std.proofs.Common.{◌≡◌, refl, sym, ap, ◌∙◌, subst, ℕ, suc, Bool, true, false, ◌&&◌, List}
use Rattle.std.specs.List.{list_all}
use Rattle.std.specs.Option.{option_map_or}
use Rattle.std.specs.Prelude.{is_some}
use Rattle.std.proofs.lemmas.Bool.Decides.{nat_tests}
use mathlib.Core.Bool.{true≢false}
use native.Mathlib.Omega.{arith}
use Rattle.ac_types.proofs.Same.{both_true, and_true}
use Rattle.ac_types.specs.Types.{Bytes, Typ, TInt, TBool, TStr, TUnit, TExn, TTuple, TList, TOpt, TFun, TAbs, Typs, no_types, typ, same, mentions, mentions_of_all, is_small}
use Rattle.ac_types.specs.Partial.{agree}
use Rattle.ac_terms.specs.Terms.{Home, Expr, Int, Boolean, Str, Unit', Exn, ExnOf, Tuple, Nil, Empty, Present, Cons, Var, Own, Ref, Lam, Rec, App, Let, If, Seq, Match, Try, Raise, Prim, Marshal, Unmarshal, Val, Evaluated, Bracket, Exprs, no_exprs, expr, Arms, no_arms, arm, PValue, KInt, KBool, KStr, KUnit, KExn, KTuple, KList, KAbsent, KPresent, KFun, no_pvalues, pvalue, Value, VInt, VBool, VStr, VUnit, VExn, VTuple, VNil, VCons, VAbsent, VPresent, VLam, VRec, VProxy, VSeal, Values, no_values, value}
use Rattle.ac_terms.specs.Defs.{Environment}
use Rattle.ac_terms.specs.Bounds.{is_four, fits_type, fits_term, fit_terms, fit_arms, fits_value, fit_values, has_small_types}
use Rattle.ac_terms.specs.Spelling.{value_count}
use Rattle.ac_terms.specs.Parts.{value_parts}
use Rattle.ac_terms.specs.PrimitiveTypes.{is_exception}
use Rattle.ac_rules.specs.Views.{Mode, Plain, Coloured, view, head, opens, is_known, are_known}
use Rattle.ac_rules.specs.Typing.{is_function, is_function_home, all_of, tuple_parts, list_item, option_item, type_of, type_seen as seen_type, holds, all_hold, each_holds}
use Rattle.ac_rules.specs.Plain.{stays, where_there, in_front, may_travel, travelling}
use Rattle.ac_rules.specs.Coherent.{IsCoherent}
use Rattle.ac_rules.specs.RoundTrip.{IsPackable}
use Rattle.ac_terms.proofs.AllLaws.{all_left, all_right}
use Rattle.ac_rules.proofs.KnownTypes.{head_known}
use Rattle.ac_rules.proofs.Carried.{IsStill, AreStill, StillArms, HasStill, AllHaveStill}
use Rattle.ac_rules.proofs.Trust.{IsOf, trusted}
use Rattle.ac_rules.proofs.HeadViews.{head_seen}
use Rattle.ac_meaning.specs.BareTerms.{bare_term, bare_all, bare_arms, WTuple, WPresent, bare_value, bare_values}
use Rattle.ac_rules.proofs.Rules.{agree_some}
use Rattle.ac_meaning.specs.BarePacking.{bare_packed as packed, bare_all_packed as all_packed, bare_packed_term as packed_term, bare_packed_terms as packed_terms, bare_packed_arms as packed_arms}
use Rattle.ac_meaning.proofs.Homes.{all_seen}
use Rattle.ac_meaning.proofs.HeadsSeen.{at_head, int_at, bool_at, str_at, unit_at, exn_at, tuple_at, list_at, option_at}
use Rattle.ac_meaning.specs.Typed.{Typed, AllTyped, ArmsTyped, ValueTyped, ValuesTyped}

four_less : (n : ℕ) → is_four (suc n) ≡ true → is_four n ≡ true
four_less n h = grind (arith, nat_tests)

-- parts of lists of types
abbrev types' : Typs → Typs
types' (typ T Ts) = Ts
types' no_types = no_types

abbrev first' : Typs → Typ
first' (typ T Ts) = T
first' no_types = TUnit

module _ (mode : Mode) (E : Environment) (coherent : IsCoherent E) where
  abbrev Good : PValue → Typ → Type 0
  Good w T = HasStill (IsOf E) w × (holds Coloured false E w T ≡ true)

  -- a type in a home is what the home sees of a type that comes to T
  record Sees (c : Home) (X T : Typ) : Type 0 where
    from : Typ
    known : are_known E from ≡ true
    seen : X ≡ view mode E c from
    to : head E from ≡ head E T

  -- a function says its own types
  abbrev Seen : Value → Home → Typ → Typ → Type 0
  Seen (VLam A e) c X T = Unit {0}
  Seen (VRec A B e) c X T = Unit {0}
  Seen (VProxy b A B f) c X T = Unit {0}
  Seen v c X T = Sees c X T

  seen_of : (v : Value) (c : Home) (X T : Typ) → Sees c X T → Seen v c X T
  seen_of (VLam A e) c X T s = tt
  seen_of (VRec A B e) c X T s = tt
  seen_of (VProxy b A B f) c X T s = tt
  seen_of (VInt n) c X T s = s
  seen_of (VBool n) c X T s = s
  seen_of (VStr n) c X T s = s
  seen_of VUnit c X T s = s
  seen_of (VExn k n) c X T s = s
  seen_of (VTuple vs) c X T s = s
  seen_of (VNil A) c X T s = s
  seen_of (VCons v w) c X T s = s
  seen_of (VAbsent A) c X T s = s
  seen_of (VPresent v) c X T s = s
  seen_of (VSeal b n t v) c X T s = s

  of_type : (c : Home) (T : Typ) → are_known E T ≡ true → Sees c (view mode E c T) T
  of_type c T h = record { from = T; known = h; seen = refl; to = refl }

  -- a function's type is seen of functions alone
  seen_fun : (v : Value) (c : Home) (A B T : Typ) → ValueTyped mode E v c (TFun A B) → Seen v c (TFun A B) T
  seen_fun (VLam U e) c A B T t = tt
  seen_fun (VRec U W e) c A B T t = tt
  seen_fun (VProxy b U W f) c A B T t = tt
  seen_fun (VInt n) c A B T t = absurd cc
  seen_fun (VBool n) c A B T t = absurd cc
  seen_fun (VStr n) c A B T t = absurd cc
  seen_fun VUnit c A B T t = absurd cc
  seen_fun (VExn k n) c A B T t = absurd cc
  seen_fun (VTuple vs) c A B T t = let e = t.1 in absurd cc
  seen_fun (VNil U) c A B T t = let e = t.1 in absurd cc
  seen_fun (VCons v w) c A B T t = let e = t.1 in absurd cc
  seen_fun (VAbsent U) c A B T t = let e = t.1 in absurd cc
  seen_fun (VPresent v) c A B T t = let e = t.1 in absurd cc
  seen_fun (VSeal b n s v) c A B T t = let e = t.0 in absurd cc

  -- a function that travels
  good_function : (c : Home) (l : Expr) (T : Typ) → (fits_term true l ≡ true → IsStill (IsOf E) l) → fits_value (travelling E c l T) ≡ true → Good (travelling E c l T) T
  good_function c l T still w = by (may_travel E c l T) refl w
    where
      by : (b : Bool) → may_travel E c l T ≡ b → fits_value (elim b as (λ z. PValue) [ true ↦ KFun c l | false ↦ stays ]) ≡ true → Good (elim b as (λ z. PValue) [ true ↦ KFun c l | false ↦ stays ]) T
      by false q r = absurd (true≢false (sym r))
      by true q r =
          let i = still (both_true _ _ r).1 in
          let p = both_true (is_function (head E T) && is_function_home E c) (agree (type_of Coloured true E (all_of E c) l) (seen_type Coloured true E c (head E T))) q in
          let a = agree_some _ _ p.1 in (
            i,
            and_true {a = is_function (head E T) && is_function_home E c} {b = agree (type_of Coloured false E (all_of E c) l) (seen_type Coloured false E c (head E T))} p.0
                (ap (λ o. agree o (seen_type Coloured true E c (head E T))) (trusted E coherent c l a.0 i a.1) ∙ sym (ap (λ o. agree o (seen_type Coloured true E c (head E T))) a.1) ∙ p.1),
          )

  known_items : (T U : Typ) → head E T ≡ TList U → are_known E T ≡ true → are_known E U ≡ true
  known_items T U e h = subst (λ H. are_known E H ≡ true) e (head_known E coherent T h)

  known_option : (T U : Typ) → head E T ≡ TOpt U → are_known E T ≡ true → are_known E U ≡ true
  known_option T U e h = subst (λ H. are_known E H ≡ true) e (head_known E coherent T h)

  known_parts : (T : Typ) (Us : Typs) → head E T ≡ TTuple Us → are_known E T ≡ true → list_all (is_known E) (mentions_of_all Us) ≡ true
  known_parts T Us e h = subst (λ H. are_known E H ≡ true) e (head_known E coherent T h)

  -- what a seal is of comes to the same; in Plain mode there is none
  sealed_head : (m : Mode) (c : Home) (X : Typ) (n u : Bytes) → are_known E X ≡ true → view m E c X ≡ TAbs n u → opens m E c n ≡ false → head E (TAbs n u) ≡ head E X
  sealed_head Coloured c X n u k e q = head_seen E coherent c X n u k e
  sealed_head Plain c X n u k e q = absurd (true≢false q)

  mutual
    good : (v : Value) (c : Home) (X T : Typ) → are_known E T ≡ true → ValueTyped mode E v c X → Seen v c X T → fits_value (packed E (bare_value c v) T) ≡ true → Good (packed E (bare_value c v) T) T
    good (VInt n) c X T k t s w = let a = at_head E coherent mode c s.from TInt s.known tt (sym s.seen ∙ t) in (tt, ap (λ H. same H TInt) (sym s.to) ∙ int_at E coherent mode c (head E s.from) a.0 a.1)
    good (VBool n) c X T k t s w = let a = at_head E coherent mode c s.from TBool s.known tt (sym s.seen ∙ t) in (tt, ap (λ H. same H TBool) (sym s.to) ∙ bool_at E coherent mode c (head E s.from) a.0 a.1)
    good (VStr n) c X T k t s w = let a = at_head E coherent mode c s.from TStr s.known tt (sym s.seen ∙ t) in (tt, ap (λ H. same H TStr) (sym s.to) ∙ str_at E coherent mode c (head E s.from) a.0 a.1)
    good VUnit c X T k t s w = let a = at_head E coherent mode c s.from TUnit s.known tt (sym s.seen ∙ t) in (tt, ap (λ H. same H TUnit) (sym s.to) ∙ unit_at E coherent mode c (head E s.from) a.0 a.1)
    good (VExn j n) c X T k t s w =
        let a = at_head E coherent mode c s.from TExn s.known tt (sym s.seen ∙ t) in
        (tt, and_true {a = same (head E T) TExn} {b = is_exception j n} (ap (λ H. same H TExn) (sym s.to) ∙ exn_at E coherent mode c (head E s.from) a.0 a.1) (both_true (is_exception j n) _ w).0)
    good (VTuple vs) c X T k t s w =
        let a = at_head E coherent mode c s.from (TTuple t.0) s.known tt (sym s.seen ∙ t.1) in
        let r = tuple_at E coherent mode c (head E s.from) t.0 a.0 a.1 in
        let e : head E T ≡ TTuple r.0 = sym s.to ∙ r.1 in
        let is : packed E (WTuple (bare_values c vs)) T ≡ KTuple (all_packed E (bare_values c vs) r.0) = ap (λ H. where_there (tuple_parts H) (λ Ts. KTuple (all_packed E (bare_values c vs) Ts))) e in
        let f = both_true _ _ (subst (λ x. fits_value x ≡ true) is w) in
        let g = all_good vs c t.0 r.0 (known_parts T r.0 e k) t.2 r.2 f.1 in
        subst (λ x. Good x T) (sym is) (g.0, ap (λ H. option_map_or (λ Ts. all_hold Coloured false E (all_packed E (bare_values c vs) r.0) Ts) (tuple_parts H) false) e ∙ g.1)
    good (VNil A) c X T k t s w =
        let a = at_head E coherent mode c s.from (TList t.0) s.known tt (sym s.seen ∙ t.1) in
        let r = list_at E coherent mode c (head E s.from) t.0 a.0 a.1 in
        (tt, ap (λ H. option_map_or (λ U. each_holds Coloured false E no_pvalues U) (list_item H) false) (sym s.to ∙ r.1))
    good (VCons v u) c X T k t s w =
        let a = at_head E coherent mode c s.from (TList t.0) s.known tt (sym s.seen ∙ t.1) in
        let r = list_at E coherent mode c (head E s.from) t.0 a.0 a.1 in
        let e : head E T ≡ TList r.0 = sym s.to ∙ r.1 in
        let one : where_there (list_item (head E T)) (λ U. packed E (bare_value c v) U) ≡ packed E (bare_value c v) r.0 = ap (λ H. where_there (list_item H) (λ U. packed E (bare_value c v) U)) e in
        let known = known_items T r.0 e k in
        subst (λ x. Good (in_front x (packed E (bare_value c u) T)) T) (sym one)
        (joined (packed E (bare_value c v) r.0) (packed E (bare_value c u) T) T r.0 e
        (λ f. good v c t.0 r.0 known t.2 (seen_of v c t.0 r.0 (record { from = r.0; known = known; seen = sym r.2; to = refl })) f)
        (λ f. good u c (TList t.0) T k t.3 (seen_of u c (TList t.0) T (record { from = s.from; known = s.known; seen = sym t.1 ∙ s.seen; to = s.to })) f)
        (subst (λ x. fits_value (in_front x (packed E (bare_value c u) T)) ≡ true) one w))
      where
        joined : (x y : PValue) (T U : Typ) → head E T ≡ TList U → (fits_value x ≡ true → Good x U) → (fits_value y ≡ true → Good y T) → fits_value (in_front x y) ≡ true → Good (in_front x y) T
        joined x (KList ys) T U e f g w =
            let p = both_true (is_four (suc (value_count ys))) _ w in
            let q = both_true (fits_value x) (fit_values ys) p.1 in
            let a = f q.0 in
            let b = g (and_true {a = is_four (value_count ys)} {b = fit_values ys} (four_less (value_count ys) p.0) q.1) in
            let all : each_holds Coloured false E ys U ≡ true = sym (ap (λ H. option_map_or (λ V. each_holds Coloured false E ys V) (list_item H) false) e) ∙ b.1 in
            ((a.0, b.0), ap (λ H. option_map_or (λ V. each_holds Coloured false E (pvalue x ys) V) (list_item H) false) e ∙ and_true {a = holds Coloured false E x U} {b = each_holds Coloured false E ys U} a.1 all)
        joined x (KInt n) T U e f g w = absurd (true≢false (sym w))
        joined x (KBool n) T U e f g w = absurd (true≢false (sym w))
        joined x (KStr n) T U e f g w = absurd (true≢false (sym w))
        joined x KUnit T U e f g w = absurd (true≢false (sym w))
        joined x (KExn j n) T U e f g w = absurd (true≢false (sym w))
        joined x (KTuple ys) T U e f g w = absurd (true≢false (sym w))
        joined x KAbsent T U e f g w = absurd (true≢false (sym w))
        joined x (KPresent y) T U e f g w = absurd (true≢false (sym w))
        joined x (KFun h l) T U e f g w = absurd (true≢false (sym w))
    good (VAbsent A) c X T k t s w =
        let a = at_head E coherent mode c s.from (TOpt t.0) s.known tt (sym s.seen ∙ t.1) in
        let r = option_at E coherent mode c (head E s.from) t.0 a.0 a.1 in
        (tt, ap (λ H. is_some (option_item H)) (sym s.to ∙ r.1))
    good (VPresent v) c X T k t s w =
        let a = at_head E coherent mode c s.from (TOpt t.0) s.known tt (sym s.seen ∙ t.1) in
        let r = option_at E coherent mode c (head E s.from) t.0 a.0 a.1 in
        let e : head E T ≡ TOpt r.0 = sym s.to ∙ r.1 in
        let is : packed E (WPresent (bare_value c v)) T ≡ KPresent (packed E (bare_value c v) r.0) = ap (λ H. where_there (option_item H) (λ U. KPresent (packed E (bare_value c v) U))) e in
        let known = known_option T r.0 e k in
        let g = good v c t.0 r.0 known t.2 (seen_of v c t.0 r.0 (record { from = r.0; known = known; seen = sym r.2; to = refl })) (subst (λ x. fits_value x ≡ true) is w) in
        subst (λ x. Good x T) (sym is) (g.0, ap (λ H. option_map_or (λ U. holds Coloured false E (packed E (bare_value c v) r.0) U) (option_item H) false) e ∙ g.1)
    good (VLam A e) c X T k t s w = good_function c (Lam A (packed_term E (bare_term c e))) T (λ f. still e c _ t.0 t.2 (both_true _ _ f).1) w
    good (VRec A B e) c X T k t s w = good_function c (Rec A B (packed_term E (bare_term c e))) T (λ f. still e c _ _ t.1 (both_true _ _ f).1) w
    good (VProxy b A B f) c X T k t s w = good f b _ T k t.3 (seen_fun f b _ _ T t.3) w
    good (VSeal b n u v) c X T k t s w =
        good v b (view mode E b (TAbs n u)) T k t.4
        (seen_of v b (view mode E b (TAbs n u)) T (record { from = TAbs n u; known = t.1; seen = refl; to = sealed_head mode c s.from n u s.known (sym s.seen ∙ t.0) t.3 ∙ s.to })) w

    all_good : (vs : Values) (c : Home) (Us Ts : Typs) → list_all (is_known E) (mentions_of_all Ts) ≡ true → ValuesTyped mode E vs c Us → all_seen E mode c Ts ≡ Us → fit_values (all_packed E (bare_values c vs) Ts) ≡ true →
        AllHaveStill (IsOf E) (all_packed E (bare_values c vs) Ts) × (all_hold Coloured false E (all_packed E (bare_values c vs) Ts) Ts ≡ true)
    all_good no_values c Us no_types k t e w = (tt, refl)
    all_good no_values c Us (typ T Ts) k t e w = absurd cc
    all_good (value v vs) c Us no_types k t e w = let f = t.2 in absurd cc
    all_good (value v vs) c Us (typ T Ts) k t e w =
        let k' = all_left (is_known E) (mentions T) (mentions_of_all Ts) k in
        let same_first : view mode E c T ≡ t.0 = ap first' (e ∙ t.2) in
        let f = both_true _ _ w in
        let g = good v c t.0 T k' t.3 (seen_of v c t.0 T (record { from = T; known = k'; seen = sym same_first; to = refl })) f.0 in
        let h = all_good vs c t.1 Ts (all_right (is_known E) (mentions T) (mentions_of_all Ts) k) t.4 (ap types' (e ∙ t.2)) f.1 in
        ((g.0, h.0), and_true {a = holds Coloured false E (packed E (bare_value c v) T) T} {b = all_hold Coloured false E (all_packed E (bare_values c vs) Ts) Ts} g.1 h.1)

    -- each captured value in a term is of the type beside it
    still : (e : Expr) (c : Home) (G : List Typ) (X : Typ) → Typed mode E e c G X → fits_term true (packed_term E (bare_term c e)) ≡ true → IsStill (IsOf E) (packed_term E (bare_term c e))
    still (Int n) c G X t w = tt
    still (Boolean b) c G X t w = tt
    still (Str s) c G X t w = tt
    still Unit' c G X t w = tt
    still (Exn k) c G X t w = tt
    still (ExnOf k e) c G X t w = still e c G _ t.1 (both_true _ _ w).1
    still (Tuple es) c G X t w = all_still es c G t.0 t.2 (both_true _ _ w).1
    still (Nil A) c G X t w = tt
    still (Empty A) c G X t w = tt
    still (Present e) c G X t w = still e c G t.0 t.2 w
    still (Cons a b) c G X t w = let p = both_true _ _ w in (still a c G _ t.2 p.0, still b c G _ t.3 p.1)
    still (Var i) c G X t w = tt
    still (Own g) c G X t w = tt
    still (Ref j x) c G X t w = tt
    still (Lam A e) c G X t w = still e c _ t.0 t.2 (both_true _ _ w).1
    still (Rec A B e) c G X t w = still e c _ _ t.1 (both_true _ _ w).1
    still (App a b) c G X t w = let p = both_true _ _ w in (still a c G _ t.1 p.0, still b c G _ t.2 p.1)
    still (Let A a b) c G X t w = let p = both_true _ _ w in (still a c G _ t.0 (both_true _ _ p.0).1, still b c _ _ t.1 p.1)
    still (If e a b) c G X t w = let p = both_true _ _ w in let q = both_true _ _ p.0 in (still e c G _ t.0 q.0, still a c G _ t.1 q.1, still b c G _ t.2 p.1)
    still (Seq es) c G X t w = all_still es c G t.0 t.1 (both_true _ _ w).1
    still (Match e arms) c G X t w = let p = both_true _ _ (both_true _ _ (both_true _ _ w).0).0 in (still e c G _ t.1 p.0, arms_still arms c G t.0 X t.2 p.1)
    still (Try e arms) c G X t w = let p = both_true _ _ (both_true _ _ (both_true _ _ w).0).0 in (still e c G _ t.0 p.0, arms_still arms c G _ X t.1 p.1)
    still (Raise A e) c G X t w = still e c G _ t.1 (both_true _ _ w).1
    still (Prim k es) c G X t w = all_still es c G t.0 t.1 (both_true _ _ w).1
    still (Marshal A a b) c G X t w = let p = both_true _ _ w in (still a c G _ t.1 (both_true _ _ p.0).1, still b c G _ t.2 p.1)
    still (Unmarshal A e) c G X t w = still e c G _ t.1 (both_true _ _ w).1
    still (Val A v) c G X t w = absurd t
    still (Evaluated A v) c G X t w = good v c X A t.2 t.1 (seen_of v c X A (record { from = A; known = t.2; seen = t.0; to = refl })) (both_true _ _ w).1
    still (Bracket b A e) c G X t w = absurd (true≢false (sym w))

    all_still : (es : Exprs) (c : Home) (G : List Typ) (Ts : Typs) → AllTyped mode E es c G Ts → fit_terms true (packed_terms E (bare_all c es)) ≡ true → AreStill (IsOf E) (packed_terms E (bare_all c es))
    all_still no_exprs c G Ts t w = tt
    all_still (expr e es) c G Ts t w = let p = both_true _ _ w in (still e c G t.0 t.3 p.0, all_still es c G t.1 t.4 p.1)

    arms_still : (arms : Arms) (c : Home) (G : List Typ) (A X : Typ) → ArmsTyped mode E arms c G A X → fit_arms true (packed_arms E (bare_arms c arms)) ≡ true → StillArms (IsOf E) (packed_arms E (bare_arms c arms))
    arms_still no_arms c G A X t w = tt
    arms_still (arm p e rest) c G A X t w = let q = both_true _ _ w in (still e c _ X t.2 (both_true _ _ q.0).1, arms_still rest c G A X t.3 q.1)

  -- what a typed value is packed to can be packed, where it is within the bounds
  pub packable : (v : Value) (c : Home) (T : Typ) → are_known E T ≡ true → ValueTyped mode E v c (view mode E c T) → fits_type false T ≡ true → is_small T ≡ true →
      fits_value (packed E (bare_value c v) T) ≡ true → has_small_types (value_parts (packed E (bare_value c v) T)) ≡ true → IsPackable E T (packed E (bare_value c v) T)
  packable v c T k t a b w d =
      let g = good v c (view mode E c T) T k t (seen_of v c (view mode E c T) T (of_type c T k)) w in
      record { value_holds = g.1; type_known = k; type_fits = a; type_small = b; value_fits = w; small_types = d }
