-- What a packed value says at a type: at each first-order n.t on the way down, that what stands there was sealed at n.t. What is marshalled says nothing but what its seals tell.
use Rattle.std.proofs.Common.{◌≡◌, refl, sym, ap, ap₂, ◌∙◌, subst, ℕ, zero, suc, Bool, true, false, length, take, ◌++◌, Some}
use Rattle.std.specs.Prelude.{◌&&◌, List, [], ◌∷◌}
use Rattle.std.specs.List.{list_all}
use mathlib.Core.Bool.{true≢false}
use Rattle.ac_types.proofs.Same.{both_true}
use Rattle.ac_types.specs.Types.{Bytes, Typ, TInt, TBool, TStr, TUnit, TExn, TTuple, TList, TOpt, TFun, TAbs, TMine, Typs, no_types, typ, has_function, mentions, mentions_of_all}
use Rattle.ac_terms.specs.Terms.{Home, Expr, Int, Boolean, Str, Unit', Exn, Nil, Empty, Var, Own, Ref, ExnOf, Tuple, Present, Cons, Lam, Rec, App, Let, If, Seq, Match, Try, Raise, Prim, Marshal, Unmarshal, Val, Evaluated, Bracket, Exprs, no_exprs, expr, Arms, no_arms, arm, PValue, KInt, KBool, KStr, KUnit, KExn, KTuple, KList, KAbsent, KPresent, KFun, PValues, no_pvalues, pvalue, Value, VInt, VBool, VStr, VUnit, VExn, VTuple, VNil, VCons, VAbsent, VPresent, VLam, VRec, VProxy, VSeal, Values, no_values, value}
use Rattle.ac_terms.specs.Defs.{Environment}
use Rattle.ac_rules.specs.Views.{Coloured, bare, opened, unsealed, head, rounds, is_known, are_known}
use Rattle.ac_types.specs.Partial.{given, agree}
use Rattle.ac_rules.specs.Typing.{tuple_parts, list_item, option_item, is_function, is_function_home, type_of, all_of, type_seen}
use Rattle.ac_rules.specs.Plain.{stays, where_there, in_front, packed, all_packed, packed_term, packed_terms, packed_arms, may_travel, travelling, all_travel, plain}
use Rattle.ac_rules.specs.Coherent.{IsCoherent}
use Rattle.ac_terms.proofs.AllLaws.{all_left, all_right}
use Rattle.ac_rules.proofs.ListLaws.{take_whole}
use Rattle.ac_meaning.specs.Rebuilding.{parts_of, item_of}
use Rattle.ac_meaning.specs.Typed.{as_seen, Typed, AllTyped, ArmsTyped, ValueTyped, ValuesTyped}
use Rattle.ac_rules.proofs.KnownTypes.{rounds_still}
use Rattle.ac_meaning.proofs.Homes.{sees_own}
use Rattle.ac_colours.specs.Sealed.{Saying, Sealed, AllSealed, ArmsSealed, ValueSealed, ValuesSealed}
use Rattle.ac_colours.proofs.Owning.{Owned, AllOwned, ArmsOwned, ValueOwned, ValuesOwned}
use Rattle.ac_colours.proofs.OwnText.{speaks}
use Rattle.ac_colours.proofs.Ground.{ground, Before, spoken_before, sees_as_is, opened_before, own_before}

-- what is said of a birth: its name and type, and the packed value
abbrev pub OfBirth : Type 1
OfBirth = Bytes → Bytes → PValue → Type 0

module _ (E : Environment) (K : OfBirth) where
  -- K holds of what is sealed at n.t, where n.t is first-order and the value travels
  abbrev pub Here : Bytes → Bytes → PValue → Type 0
  Here n t w = has_function (bare E (TAbs n t)) ≡ false → all_travel w ≡ true → K n t w

  -- K holds of w at each abstract type on the way to the head, and go holds of the head
  abbrev pub SaidAt : Typ → ℕ → PValue → (Typ → Type 0) → Type 0
  SaidAt (TAbs n t) zero w go = Unit {0}
  SaidAt (TAbs n t) (suc k) w go = Here n t w × SaidAt (opened E n t) k w go
  SaidAt T k w go = go T

  -- K holds of all that a packed value says at a type
  abbrev mutual
    pub Said : Typ → PValue → Type 0
    Said T (KTuple vs) = SaidAt T (length E) (KTuple vs) (λ U. AllSaid (parts_of U) vs)
    Said T (KList vs) = SaidAt T (length E) (KList vs) (λ U. EachSaid (item_of U) vs)
    Said T (KPresent v) = SaidAt T (length E) (KPresent v) (λ U. Said (item_of U) v)
    Said T (KFun h l) = SaidAt T (length E) (KFun h l) (λ U. TermSaid l)
    Said T w = SaidAt T (length E) w (λ U. Unit {0})

    pub AllSaid : Typs → PValues → Type 0
    AllSaid (typ T Ts) (pvalue v vs) = Said T v × AllSaid Ts vs
    AllSaid no_types (pvalue v vs) = Said TUnit v × AllSaid no_types vs
    AllSaid Ts no_pvalues = Unit {0}

    pub EachSaid : Typ → PValues → Type 0
    EachSaid T no_pvalues = Unit {0}
    EachSaid T (pvalue v vs) = Said T v × EachSaid T vs

    pub TermSaid : Expr → Type 0
    TermSaid (ExnOf k e) = TermSaid e
    TermSaid (Tuple es) = TermsSaid es
    TermSaid (Present e) = TermSaid e
    TermSaid (Cons a b) = TermSaid a × TermSaid b
    TermSaid (Lam T e) = TermSaid e
    TermSaid (Rec T U e) = TermSaid e
    TermSaid (App f a) = TermSaid f × TermSaid a
    TermSaid (Let T e b) = TermSaid e × TermSaid b
    TermSaid (If c a b) = TermSaid c × TermSaid a × TermSaid b
    TermSaid (Seq es) = TermsSaid es
    TermSaid (Match e arms) = TermSaid e × ArmsSaid arms
    TermSaid (Try e arms) = TermSaid e × ArmsSaid arms
    TermSaid (Raise T e) = TermSaid e
    TermSaid (Prim k es) = TermsSaid es
    TermSaid (Marshal T m e) = TermSaid m × TermSaid e
    TermSaid (Unmarshal T e) = TermSaid e
    TermSaid (Val T v) = Said T v
    TermSaid e = Unit {0}

    pub TermsSaid : Exprs → Type 0
    TermsSaid no_exprs = Unit {0}
    TermsSaid (expr e es) = TermSaid e × TermsSaid es

    pub ArmsSaid : Arms → Type 0
    ArmsSaid no_arms = Unit {0}
    ArmsSaid (arm p e rest) = TermSaid e × ArmsSaid rest

  -- K holds of what a seal tells
  abbrev pub Told : Saying
  Told b n t v = (w : PValue) → has_function (bare E (TAbs n t)) ≡ false → plain E b v (opened E n t) ≡ Some w → K n t w

  module _ (coherent : IsCoherent E) where
    unsettled : (T : Typ) (k : ℕ) (w : PValue) (go : Typ → Type 0) → Before E coherent k T → SaidAt T (suc k) w go → SaidAt T k w go
    unsettled (TAbs n t) zero w go b h = tt
    unsettled (TAbs n t) (suc k) w go b h = (h.0, unsettled (opened E n t) k w go (opened_before E coherent n t k b) h.1)
    unsettled TInt k w go b h = h
    unsettled TBool k w go b h = h
    unsettled TStr k w go b h = h
    unsettled TUnit k w go b h = h
    unsettled TExn k w go b h = h
    unsettled (TTuple Ts) k w go b h = h
    unsettled (TList T) k w go b h = h
    unsettled (TOpt T) k w go b h = h
    unsettled (TFun T U) k w go b h = h
    unsettled (TMine t) k w go b h = h

    pub round_settled : (T : Typ) (k : ℕ) → Before E coherent k T → rounds (suc k) (unsealed E) T ≡ rounds k (unsealed E) T
    round_settled (TAbs n t) zero b = absurd (true≢false (sym (both_true _ true b).0))
    round_settled (TAbs n t) (suc k) b = round_settled (opened E n t) k (opened_before E coherent n t k b)
    round_settled TInt k b = refl
    round_settled TBool k b = refl
    round_settled TStr k b = refl
    round_settled TUnit k b = refl
    round_settled TExn k b = refl
    round_settled (TTuple Ts) k b = refl
    round_settled (TList T) k b = refl
    round_settled (TOpt T) k b = refl
    round_settled (TFun T U) k b = refl
    round_settled (TMine t) k b = refl

    travel_head : (c : Home) (l : Expr) (T U : Typ) → head E T ≡ head E U → travelling E c l T ≡ travelling E c l U
    travel_head c l T U h = ap (λ X. elim (is_function X && is_function_home E c && agree (type_of Coloured true E (all_of E c) l) (type_seen Coloured true E c X)) as (λ b. PValue) [ true ↦ KFun c l | false ↦ stays ]) h

    -- a packed value goes by the head of the type alone
    pub packed_head : (v : Value) (c : Home) (T U : Typ) → head E T ≡ head E U → packed E c v T ≡ packed E c v U
    packed_head (VTuple vs) c T U h = ap (λ X. where_there (tuple_parts X) (λ Ts. KTuple (all_packed E c vs Ts))) h
    packed_head (VCons v w) c T U h = ap₂ in_front (ap (λ X. where_there (list_item X) (λ A. packed E c v A)) h) (packed_head w c T U h)
    packed_head (VPresent v) c T U h = ap (λ X. where_there (option_item X) (λ A. KPresent (packed E c v A))) h
    packed_head (VLam A e) c T U h = travel_head c (Lam A (packed_term E c e)) T U h
    packed_head (VRec A B e) c T U h = travel_head c (Rec A B (packed_term E c e)) T U h
    packed_head (VProxy b A B f) c T U h = packed_head f b T U h
    packed_head (VSeal b n t v) c T U h = packed_head v b T U h
    packed_head _ c T U h = refl

    abbrev pub before : Home → Typ → Type 0
    before c T = Before E coherent (ground E c) T

    -- what a function says in the place of a lambda
    travel_said : (b : Bool) (c : Home) (l : Expr) (X Y : Typ) → TermSaid l → Said (TFun X Y) (elim b as (λ z. PValue) [ true ↦ KFun c l | false ↦ stays ])
    travel_said true c l X Y h = h
    travel_said false c l X Y h = tt

    front_said : (A : Typ) (p q : PValue) → Said A p → Said (TList A) q → Said (TList A) (in_front p q)
    front_said A p (KList vs) h k = (h, k)
    front_said A p _ h k = tt

    -- a seal's value says at n.t what it says at the representation, and that it was sealed
    seal_said : (n t : Bytes) (w : PValue) → is_known E (n, t) ≡ true → Before E coherent (length E) (TAbs n t) → Here n t w → Said (opened E n t) w → Said (TAbs n t) w
    seal_said n t (KTuple vs) k b h g = unsettled (TAbs n t) (length E) (KTuple vs) (λ U. AllSaid (parts_of U) vs) b (h, g)
    seal_said n t (KList vs) k b h g = unsettled (TAbs n t) (length E) (KList vs) (λ U. EachSaid (item_of U) vs) b (h, g)
    seal_said n t (KPresent v) k b h g = unsettled (TAbs n t) (length E) (KPresent v) (λ U. Said (item_of U) v) b (h, g)
    seal_said n t (KFun d l) k b h g = unsettled (TAbs n t) (length E) (KFun d l) (λ U. TermSaid l) b (h, g)
    seal_said n t (KInt i) k b h g = unsettled (TAbs n t) (length E) (KInt i) (λ U. Unit {0}) b (h, g)
    seal_said n t (KBool i) k b h g = unsettled (TAbs n t) (length E) (KBool i) (λ U. Unit {0}) b (h, g)
    seal_said n t (KStr i) k b h g = unsettled (TAbs n t) (length E) (KStr i) (λ U. Unit {0}) b (h, g)
    seal_said n t KUnit k b h g = unsettled (TAbs n t) (length E) KUnit (λ U. Unit {0}) b (h, g)
    seal_said n t (KExn i j) k b h g = unsettled (TAbs n t) (length E) (KExn i j) (λ U. Unit {0}) b (h, g)
    seal_said n t KAbsent k b h g = unsettled (TAbs n t) (length E) KAbsent (λ U. Unit {0}) b (h, g)

    sealed_told : (b : Home) (n t : Bytes) (v : Value) → Told b n t v → Here n t (packed E b v (opened E n t))
    sealed_told b n t v h f a = let w = packed E b v (opened E n t) in h w f (ap (λ (x : Bool). given x (Some w)) a)

    pub whole : (T : Typ) → are_known E T ≡ true → Before E coherent (length E) T
    whole T k = ap (λ X. list_all (is_known X) (mentions T)) (take_whole E) ∙ k

    mutual
      -- what is marshalled says nothing but what its seals tell: a value of a type that its home may write
      pub said_packed : (v : Value) (c : Home) (T : Typ) → before c T → ValueTyped Coloured E v c T → ValueOwned (speaks E) c v → ValueSealed Told v → Said T (packed E c v T)
      said_packed (VInt n) c T b t o s = subst (λ X. Said X (KInt n)) (sym t) tt
      said_packed (VBool n) c T b t o s = subst (λ X. Said X (KBool n)) (sym t) tt
      said_packed (VStr n) c T b t o s = subst (λ X. Said X (KStr n)) (sym t) tt
      said_packed VUnit c T b t o s = subst (λ X. Said X KUnit) (sym t) tt
      said_packed (VExn n x) c T b t o s = subst (λ X. Said X (KExn n x)) (sym t) tt
      said_packed (VNil A) c T b t o s = subst (λ X. Said X (KList no_pvalues)) (sym t.1) tt
      said_packed (VAbsent A) c T b t o s = subst (λ X. Said X KAbsent) (sym t.1) tt
      said_packed (VTuple vs) c T b t o s =
          let Ts = t.0 in
          subst (λ X. Said X (packed E c (VTuple vs) X)) (sym t.1)
          (subst (λ X. Said (TTuple Ts) (where_there (tuple_parts X) (λ Us. KTuple (all_packed E c vs Us)))) (sym (rounds_still (length E) (unsealed E) (TTuple Ts) refl))
          (all_said_packed vs c Ts (subst (λ X. before c X) t.1 b) t.2 o s))
      said_packed (VCons v w) c T b t o s =
          let A = t.0 in
          let p : before c (TList A) = subst (λ X. before c X) t.1 b in
          subst (λ X. Said X (packed E c (VCons v w) X)) (sym t.1)
          (subst (λ X. Said (TList A) (in_front (where_there (list_item X) (λ U. packed E c v U)) (packed E c w (TList A)))) (sym (rounds_still (length E) (unsealed E) (TList A) refl))
          (front_said A (packed E c v A) (packed E c w (TList A)) (said_packed v c A p t.2 o.0 s.0) (said_packed w c (TList A) p t.3 o.1 s.1)))
      said_packed (VPresent v) c T b t o s =
          let A = t.0 in
          subst (λ X. Said X (packed E c (VPresent v) X)) (sym t.1)
          (subst (λ X. Said (TOpt A) (where_there (option_item X) (λ U. KPresent (packed E c v U)))) (sym (rounds_still (length E) (unsealed E) (TOpt A) refl))
          (said_packed v c A (subst (λ X. before c X) t.1 b) t.2 o s))
      said_packed (VLam A e) c T b t o s = subst (λ X. Said X (packed E c (VLam A e) X)) (sym t.1)
          (travel_said (may_travel E c (Lam A (packed_term E c e)) (TFun (as_seen Coloured E c A) t.0)) c (Lam A (packed_term E c e)) (as_seen Coloured E c A) t.0 (term_said e c (as_seen Coloured E c A ∷ []) t.0 t.2 o.1 s))
      said_packed (VRec A B e) c T b t o s = subst (λ X. Said X (packed E c (VRec A B e) X)) (sym t.0)
          (travel_said (may_travel E c (Rec A B (packed_term E c e)) (TFun (as_seen Coloured E c A) (as_seen Coloured E c B))) c (Rec A B (packed_term E c e)) (as_seen Coloured E c A) (as_seen Coloured E c B)
          (term_said e c (as_seen Coloured E c A ∷ TFun (as_seen Coloured E c A) (as_seen Coloured E c B) ∷ []) (as_seen Coloured E c B) t.1 o.2 s))
      said_packed (VProxy d A B f) c T b t o s = subst (λ X. Said X (packed E d f X)) (sym t.0) (fun_said f d (as_seen Coloured E d A) (as_seen Coloured E d B) (as_seen Coloured E c A) (as_seen Coloured E c B) t.3 o s)
      said_packed (VSeal d n u v) c T b t o s =
          let k : is_known E (n, u) ≡ true = (both_true (is_known E (n, u)) true t.1).0 in
          let R = opened E n u in
          let own : as_seen Coloured E d (TAbs n u) ≡ R = sees_own E d n u t.2 in
          let w = packed E d v R in
          let same : packed E d v (TAbs n u) ≡ w = packed_head v d (TAbs n u) R (sym (round_settled (TAbs n u) (length E) (whole (TAbs n u) t.1))) in
          subst (λ X. Said X (packed E d v X)) (sym t.0)
          (subst (λ x. Said (TAbs n u) x) (sym same)
          (seal_said n u w k (whole (TAbs n u) t.1) (sealed_told d n u v s.0) (said_packed v d R (own_before E coherent d n u k t.2) (subst (ValueTyped Coloured E v d) own t.4) o s.1)))

      all_said_packed : (vs : Values) (c : Home) (Ts : Typs) → before c (TTuple Ts) → ValuesTyped Coloured E vs c Ts → ValuesOwned (speaks E) c vs → ValuesSealed Told vs → AllSaid Ts (all_packed E c vs Ts)
      all_said_packed no_values c Ts b t o s = subst (λ X. AllSaid X (all_packed E c no_values X)) (sym t) tt
      all_said_packed (value v vs) c Ts b t o s =
          let U = t.0 in
          let Us = t.1 in
          let p : before c (TTuple (typ U Us)) = subst (λ X. before c (TTuple X)) t.2 b in
          let q = is_known (take (ground E c) E) in
          subst (λ X. AllSaid X (all_packed E c (value v vs) X)) (sym t.2)
          (said_packed v c U (all_left q (mentions U) (mentions_of_all Us) p) t.3 o.0 s.0, all_said_packed vs c Us (all_right q (mentions U) (mentions_of_all Us) p) t.4 o.1 s.1)

      -- what a function says doesn't go by the type at which it is packed
      fun_said : (v : Value) (c : Home) (A B X Y : Typ) → ValueTyped Coloured E v c (TFun A B) → ValueOwned (speaks E) c v → ValueSealed Told v → Said (TFun X Y) (packed E c v (TFun X Y))
      fun_said (VLam U e) c A B X Y t o s = travel_said (may_travel E c (Lam U (packed_term E c e)) (TFun X Y)) c (Lam U (packed_term E c e)) X Y (term_said e c (as_seen Coloured E c U ∷ []) t.0 t.2 o.1 s)
      fun_said (VRec U W e) c A B X Y t o s =
          travel_said (may_travel E c (Rec U W (packed_term E c e)) (TFun X Y)) c (Rec U W (packed_term E c e)) X Y
          (term_said e c (as_seen Coloured E c U ∷ TFun (as_seen Coloured E c U) (as_seen Coloured E c W) ∷ []) (as_seen Coloured E c W) t.1 o.2 s)
      fun_said (VProxy d U W f) c A B X Y t o s = fun_said f d (as_seen Coloured E d U) (as_seen Coloured E d W) X Y t.3 o s
      fun_said (VInt n) c A B X Y t o s = absurd cc
      fun_said (VBool n) c A B X Y t o s = absurd cc
      fun_said (VStr n) c A B X Y t o s = absurd cc
      fun_said VUnit c A B X Y t o s = absurd cc
      fun_said (VExn n x) c A B X Y t o s = absurd cc
      fun_said (VTuple vs) c A B X Y t o s = let e = t.1 in absurd cc
      fun_said (VNil U) c A B X Y t o s = let e = t.1 in absurd cc
      fun_said (VCons v w) c A B X Y t o s = let e = t.1 in absurd cc
      fun_said (VAbsent U) c A B X Y t o s = let e = t.1 in absurd cc
      fun_said (VPresent v) c A B X Y t o s = let e = t.1 in absurd cc
      fun_said (VSeal d n u v) c A B X Y t o s = let e = t.0 in absurd cc

      term_said : (e : Expr) (c : Home) (G : List Typ) (T : Typ) → Typed Coloured E e c G T → Owned (speaks E) false c e → Sealed Told e → TermSaid (packed_term E c e)
      term_said (Int n) c G T t o s = tt
      term_said (Boolean n) c G T t o s = tt
      term_said (Str n) c G T t o s = tt
      term_said Unit' c G T t o s = tt
      term_said (Exn k) c G T t o s = tt
      term_said (ExnOf k e) c G T t o s = term_said e c G TStr t.1 o s
      term_said (Tuple es) c G T t o s = terms_said es c G t.0 t.2 o s
      term_said (Nil A) c G T t o s = tt
      term_said (Empty A) c G T t o s = tt
      term_said (Present e) c G T t o s = term_said e c G t.0 t.2 o s
      term_said (Cons a b) c G T t o s = (term_said a c G t.0 t.2 o.0 s.0, term_said b c G (TList t.0) t.3 o.1 s.1)
      term_said (Var i) c G T t o s = tt
      term_said (Own f) c G T t o s = tt
      term_said (Ref j x) c G T t o s = tt
      term_said (Lam A e) c G T t o s = term_said e c (as_seen Coloured E c A ∷ G) t.0 t.2 o.1 s
      term_said (Rec A B e) c G T t o s = term_said e c (as_seen Coloured E c A ∷ TFun (as_seen Coloured E c A) (as_seen Coloured E c B) ∷ G) (as_seen Coloured E c B) t.1 o.2 s
      term_said (App f a) c G T t o s = (term_said f c G (TFun t.0 T) t.1 o.0 s.0, term_said a c G t.0 t.2 o.1 s.1)
      term_said (Let A e b) c G T t o s = (term_said e c G (as_seen Coloured E c A) t.0 o.1 s.0, term_said b c (as_seen Coloured E c A ∷ G) T t.1 o.2 s.1)
      term_said (If e a b) c G T t o s = (term_said e c G TBool t.0 o.0 s.0, term_said a c G T t.1 o.1 s.1, term_said b c G T t.2 o.2 s.2)
      term_said (Seq es) c G T t o s = terms_said es c G t.0 t.1 o s
      term_said (Match e arms) c G T t o s = (term_said e c G t.0 t.1 o.0 s.0, arms_said arms c G t.0 T t.2 o.1 s.1)
      term_said (Try e arms) c G T t o s = (term_said e c G T t.0 o.0 s.0, arms_said arms c G TExn T t.1 o.1 s.1)
      term_said (Raise A e) c G T t o s = term_said e c G TExn t.1 o s
      term_said (Prim k es) c G T t o s = terms_said es c G t.0 t.1 o s
      term_said (Marshal A m e) c G T t o s = (term_said m c G TStr t.1 o.1 s.0, term_said e c G (as_seen Coloured E c A) t.2 o.2 s.1)
      term_said (Unmarshal A e) c G T t o s = term_said e c G TStr t.1 o.1 s
      term_said (Val A v) c G T t o s = absurd t
      term_said (Evaluated A v) c G T t o s =
          let b = spoken_before E coherent c A t.2 o.0 in
          said_packed v c A b (subst (ValueTyped Coloured E v c) (t.0 ∙ sees_as_is E coherent c A b) t.1) o.1 s
      term_said (Bracket d A e) c G T t o s = tt

      terms_said : (es : Exprs) (c : Home) (G : List Typ) (Ts : Typs) → AllTyped Coloured E es c G Ts → AllOwned (speaks E) false c es → AllSealed Told es → TermsSaid (packed_terms E c es)
      terms_said no_exprs c G Ts t o s = tt
      terms_said (expr e es) c G Ts t o s = (term_said e c G t.0 t.3 o.0 s.0, terms_said es c G t.1 t.4 o.1 s.1)

      arms_said : (arms : Arms) (c : Home) (G : List Typ) (A T : Typ) → ArmsTyped Coloured E arms c G A T → ArmsOwned (speaks E) c arms → ArmsSealed Told arms → ArmsSaid (packed_arms E c arms)
      arms_said no_arms c G A T t o s = tt
      arms_said (arm p e rest) c G A T t o s = (term_said e c (t.0 ++ G) T t.2 o.1 s.0, arms_said rest c G A T t.3 o.2 s.1)
