-- What a value of a type looks like; writing values and matching keep types.
use Rattle.std.proofs.Common.{◌≡◌, refl, sym, ap, ◌∙◌, subst, ℕ, zero, suc, ◌+◌, Bool, true, List, [], ◌∷◌, ◌++◌, length, Option, Some, None, arith, append_assoc, length-append, ◌⊎◌, inl, inr}
use Rattle.std.specs.Prelude.{ℤ, slice_get, option_and_then, nat_eq}
use Rattle.ac_types.specs.Partial.{given}
use Rattle.ac_types.proofs.FirstLaws.{none≢some, some_eq, given_some}
use Rattle.ac_types.specs.Types.{Bytes, Typ, TInt, TBool, TStr, TUnit, TExn, TTuple, TList, TOpt, TFun, TAbs, TMine, Typs, no_types, typ}
use Rattle.ac_terms.specs.Terms.{Home, Pattern, PWild, PVar, PInt, PBool, PStr, PUnit, PTuple, PNil, PCons, PAbsent, PPresent, PExn, PExnOf, Patterns, no_patterns, pattern', Expr, Int, Boolean, Str, Unit', Exn, ExnOf, Tuple, Nil, Empty, Present, Cons, Var, Own, Ref, Lam, Rec, App, Let, If, Seq, Match, Try, Raise, Prim, Marshal, Unmarshal, Val, Evaluated, Bracket, Exprs, no_exprs, expr, Arms, no_arms, arm, Value, VInt, VBool, VStr, VUnit, VExn, VTuple, VNil, VCons, VAbsent, VPresent, VLam, VRec, VProxy, VSeal, Values, no_values, value}
use Rattle.ac_terms.specs.Defs.{Environment}
use Rattle.ac_rules.specs.Views.{Mode, opens}
use Rattle.ac_meaning.specs.Substitution.{Written, Slot, Free, Bound, up, slot_in, slot, from_slot, binders, all_binders, inst, inst_all, inst_arms}
use Rattle.ac_meaning.specs.Matching.{fit, fit_all}
use Rattle.ac_meaning.specs.Brackets.{is_function_value}
use Rattle.ac_meaning.specs.Typed.{as_seen, Known, IsHome, HasArm, Fits, AllFit, Typed, AllTyped, ArmsTyped, ValueTyped, ValuesTyped, WrittenTyped}

module _ (mode : Mode) (E : Environment) where
  abbrev sees : Home → Typ → Typ
  sees c T = as_seen mode E c T

  abbrev pub IsOf : Home → Typ → Value → Type 0
  IsOf c T v = ValueTyped mode E v c T

  -- by the head of the type
  abbrev pub Shape : Typ → Home → Value → Type 0
  Shape TInt c v = (n : ℤ) × (v ≡ VInt n)
  Shape TBool c v = (b : Bool) × (v ≡ VBool b)
  Shape TStr c v = (s : Bytes) × (v ≡ VStr s)
  Shape TUnit c v = v ≡ VUnit
  Shape TExn c v = (k : ℕ) × (s : Option Bytes) × (v ≡ VExn k s)
  Shape (TTuple Ts) c v = (vs : Values) × (v ≡ VTuple vs) × ValuesTyped mode E vs c Ts
  Shape (TList A) c v = ((B : Typ) × (v ≡ VNil B)) ⊎ ((x y : Value) × (v ≡ VCons x y) × IsOf c A x × IsOf c (TList A) y)
  Shape (TOpt A) c v = ((B : Typ) × (v ≡ VAbsent B)) ⊎ ((x : Value) × (v ≡ VPresent x) × IsOf c A x)
  Shape (TFun A B) c v = is_function_value v ≡ true
  Shape (TAbs n t) c v = (d : Home) × (w : Value) × (v ≡ VSeal d n t w) × Known mode E (TAbs n t) × (opens mode E d n ≡ true) × IsOf d (sees d (TAbs n t)) w × IsHome mode E d
  Shape (TMine t) c v = ⊥

  -- a value of a type has its shape
  pub shape : (v : Value) (c : Home) (T U : Typ) → T ≡ U → IsOf c T v → Shape U c v
  shape (VInt n) c T U e h = subst (λ X. Shape X c (VInt n)) (sym h ∙ e) (n, refl)
  shape (VBool b) c T U e h = subst (λ X. Shape X c (VBool b)) (sym h ∙ e) (b, refl)
  shape (VStr s) c T U e h = subst (λ X. Shape X c (VStr s)) (sym h ∙ e) (s, refl)
  shape VUnit c T U e h = subst (λ X. Shape X c VUnit) (sym h ∙ e) refl
  shape (VExn k s) c T U e h = subst (λ X. Shape X c (VExn k s)) (sym h ∙ e) (k, s, refl)
  shape (VTuple vs) c T U e h = subst (λ X. Shape X c (VTuple vs)) (sym h.1 ∙ e) (vs, refl, h.2)
  shape (VNil A) c T U e h = subst (λ X. Shape X c (VNil A)) (sym h.1 ∙ e) (inl (A, refl))
  shape (VCons v w) c T U e h = subst (λ X. Shape X c (VCons v w)) (sym h.1 ∙ e) (inr (v, w, refl, h.2, h.3))
  shape (VAbsent A) c T U e h = subst (λ X. Shape X c (VAbsent A)) (sym h.1 ∙ e) (inl (A, refl))
  shape (VPresent v) c T U e h = subst (λ X. Shape X c (VPresent v)) (sym h.1 ∙ e) (inr (v, refl, h.2))
  shape (VLam A t) c T U e h = subst (λ X. Shape X c (VLam A t)) (sym h.1 ∙ e) refl
  shape (VRec A B t) c T U e h = subst (λ X. Shape X c (VRec A B t)) (sym h.0 ∙ e) refl
  shape (VProxy b A B f) c T U e h = subst (λ X. Shape X c (VProxy b A B f)) (sym h.0 ∙ e) refl
  shape (VSeal d n t v) c T U e h = subst (λ X. Shape X c (VSeal d n t v)) (sym h.0 ∙ e) (d, v, refl, h.1, h.2, h.4, h.5)

  -- the values of some types
  pub values_shape : (vs : Values) (c : Home) (U : Typ) (Us : Typs) → ValuesTyped mode E vs c (typ U Us) → (v : Value) × (ws : Values) × (vs ≡ value v ws) × IsOf c U v × ValuesTyped mode E ws c Us
  values_shape no_values c U Us h = absurd cc
  values_shape (value v ws) c U Us h =
      let e = h.2 in
      let p : h.0 ≡ U = cc in
      let q : h.1 ≡ Us = cc in
      (v, ws, refl, subst (λ X. IsOf c X v) p h.3, subst (λ X. ValuesTyped mode E ws c X) q h.4)

  pub no_values_shape : (vs : Values) (c : Home) → ValuesTyped mode E vs c no_types → vs ≡ no_values
  no_values_shape no_values c h = refl
  no_values_shape (value v ws) c h = let e = h.2 in absurd cc

  -- a pattern gives as many types as it binds variables
  mutual
    pub fits_length : (p : Pattern) (c : Home) (A : Typ) (Us : List Typ) → Fits mode E p c A Us → length Us ≡ binders p
    fits_length PWild c A Us h = ap length h
    fits_length (PVar U) c A Us h = ap length h.1
    fits_length (PInt n) c A Us h = ap length h.1
    fits_length (PBool b) c A Us h = ap length h.1
    fits_length (PStr s) c A Us h = ap length h.1
    fits_length PUnit c A Us h = ap length h.1
    fits_length (PTuple ps) c A Us h = all_fit_length ps c h.0 Us h.2
    fits_length PNil c A Us h = ap length h.2
    fits_length (PCons p q) c A Us h =
        let l = fits_length p c h.0 h.1 h.4 in
        let m = fits_length q c (TList h.0) h.2 h.5 in
        ap length h.6 ∙ length-append h.2 h.1 ∙ omega (arith, l, m)
    fits_length PAbsent c A Us h = ap length h.2
    fits_length (PPresent p) c A Us h = fits_length p c h.0 Us h.2
    fits_length (PExn k) c A Us h = ap length h.1
    fits_length (PExnOf k p) c A Us h = fits_length p c TStr Us h.1

    pub all_fit_length : (ps : Patterns) (c : Home) (As : Typs) (Us : List Typ) → AllFit mode E ps c As Us → length Us ≡ all_binders ps
    all_fit_length no_patterns c As Us h = ap length h
    all_fit_length (pattern' p ps) c As Us h =
        let l = fits_length p c h.0 h.2 h.5 in
        let m = all_fit_length ps c h.1 h.3 h.6 in
        ap length h.7 ∙ length-append h.3 h.2 ∙ omega (arith, l, m)

  -- writing values keeps types
  abbrev SlotTyped : Home → List Typ → Slot Value → Typ → Type 0
  SlotTyped c D (Free i) T = slice_get D i ≡ Some T
  SlotTyped c D (Bound S v) T = (T ≡ sees c S) × IsOf c T v × Known mode E S

  up_typed : (c : Home) (A : Typ) (D : List Typ) (s : Slot Value) (T : Typ) → SlotTyped c D s T → SlotTyped c (A ∷ D) (up s) T
  up_typed c A D (Free i) T h = h
  up_typed c A D (Bound S v) T h = h

  slot_in_typed : (c : Home) (us : Written) (G : List Typ) (i : ℕ) (T : Typ) → WrittenTyped mode E us c G → slice_get G i ≡ Some T → SlotTyped c [] (slot_in us i) T
  slot_in_typed c [] G i T h e = absurd (none≢some (ap (λ X. slice_get X i) (sym h) ∙ e))
  slot_in_typed c (u ∷ us) G zero T h e =
      let q : sees c u.0 ≡ T = some_eq (ap (λ X. slice_get X 0) (sym h.1) ∙ e) in
      (sym q, subst (λ X. IsOf c X u.1) q h.2, h.4)
  slot_in_typed c (u ∷ us) G (suc i) T h e = slot_in_typed c us h.0 i T h.3 (ap (λ X. slice_get X (suc i)) (sym h.1) ∙ e)

  slot_typed : (c : Home) (D : List Typ) (d : ℕ) (us : Written) (G : List Typ) (i : ℕ) (T : Typ) → d ≡ length D → WrittenTyped mode E us c G → slice_get (D ++ G) i ≡ Some T → SlotTyped c D (slot d us i) T
  slot_typed c [] zero us G i T n h e = slot_in_typed c us G i T h e
  slot_typed c [] (suc d) us G i T n h e = absurd (omega (arith, n))
  slot_typed c (A ∷ D) zero us G i T n h e = absurd (omega (arith, n))
  slot_typed c (A ∷ D) (suc d) us G zero T n h e = e
  slot_typed c (A ∷ D) (suc d) us G (suc i) T n h e = up_typed c A D (slot d us i) T (slot_typed c D d us G i T (omega (arith, n)) h e)

  from_slot_typed : (c : Home) (D : List Typ) (s : Slot Value) (T : Typ) → SlotTyped c D s T → Typed mode E (from_slot s) c D T
  from_slot_typed c D (Free i) T h = h
  from_slot_typed c D (Bound S v) T h = h

  inst_arm : (arms : Arms) (d : ℕ) (us : Written) → HasArm arms → HasArm (inst_arms d us arms)
  inst_arm no_arms d us h = h
  inst_arm (arm p e rest) d us h = tt

  mutual
    pub inst_typed : (t : Expr) (c : Home) (D G : List Typ) (T : Typ) (us : Written) (d : ℕ) → d ≡ length D → WrittenTyped mode E us c G → Typed mode E t c (D ++ G) T → Typed mode E (inst d us t) c D T
    inst_typed (Int k) c D G T us d n e h = h
    inst_typed (Boolean k) c D G T us d n e h = h
    inst_typed (Str k) c D G T us d n e h = h
    inst_typed Unit' c D G T us d n e h = h
    inst_typed (Exn k) c D G T us d n e h = h
    inst_typed (ExnOf k t) c D G T us d n e h = (h.0, inst_typed t c D G TStr us d n e h.1)
    inst_typed (Tuple ts) c D G T us d n e h = (h.0, h.1, all_inst_typed ts c D G h.0 us d n e h.2)
    inst_typed (Nil A) c D G T us d n e h = h
    inst_typed (Empty A) c D G T us d n e h = h
    inst_typed (Present t) c D G T us d n e h = (h.0, h.1, inst_typed t c D G h.0 us d n e h.2)
    inst_typed (Cons a b) c D G T us d n e h = (h.0, h.1, inst_typed a c D G h.0 us d n e h.2, inst_typed b c D G (TList h.0) us d n e h.3)
    inst_typed (Var i) c D G T us d n e h = from_slot_typed c D (slot d us i) T (slot_typed c D d us G i T n e h)
    inst_typed (Own f) c D G T us d n e h = h
    inst_typed (Ref j x) c D G T us d n e h = h
    inst_typed (Lam A t) c D G T us d n e h = (h.0, h.1, inst_typed t c (sees c A ∷ D) G h.0 us (suc d) (ap suc n) e h.2, h.3)
    inst_typed (Rec A B t) c D G T us d n e h = (h.0, inst_typed t c (sees c A ∷ TFun (sees c A) (sees c B) ∷ D) G (sees c B) us (suc (suc d)) (ap (λ k. suc (suc k)) n) e h.1, h.2, h.3)
    inst_typed (App f a) c D G T us d n e h = (h.0, inst_typed f c D G (TFun h.0 T) us d n e h.1, inst_typed a c D G h.0 us d n e h.2)
    inst_typed (Let A t b) c D G T us d n e h = (inst_typed t c D G (sees c A) us d n e h.0, inst_typed b c (sees c A ∷ D) G T us (suc d) (ap suc n) e h.1, h.2)
    inst_typed (If t a b) c D G T us d n e h = (inst_typed t c D G TBool us d n e h.0, inst_typed a c D G T us d n e h.1, inst_typed b c D G T us d n e h.2)
    inst_typed (Seq ts) c D G T us d n e h = (h.0, all_inst_typed ts c D G h.0 us d n e h.1, h.2)
    inst_typed (Match t arms) c D G T us d n e h = (h.0, inst_typed t c D G h.0 us d n e h.1, arms_inst_typed arms c D G h.0 T us d n e h.2, inst_arm arms d us h.3)
    inst_typed (Try t arms) c D G T us d n e h = (inst_typed t c D G T us d n e h.0, arms_inst_typed arms c D G TExn T us d n e h.1, inst_arm arms d us h.2)
    inst_typed (Raise A t) c D G T us d n e h = (h.0, inst_typed t c D G TExn us d n e h.1, h.2)
    inst_typed (Prim k ts) c D G T us d n e h = (h.0, all_inst_typed ts c D G h.0 us d n e h.1, h.2)
    inst_typed (Marshal A m t) c D G T us d n e h = (h.0, inst_typed m c D G TStr us d n e h.1, inst_typed t c D G (sees c A) us d n e h.2, h.3)
    inst_typed (Unmarshal A t) c D G T us d n e h = (h.0, inst_typed t c D G TStr us d n e h.1, h.2)
    inst_typed (Val A v) c D G T us d n e h = h
    inst_typed (Evaluated A v) c D G T us d n e h = h
    inst_typed (Bracket b A t) c D G T us d n e h = h

    pub all_inst_typed : (ts : Exprs) (c : Home) (D G : List Typ) (Ts : Typs) (us : Written) (d : ℕ) → d ≡ length D → WrittenTyped mode E us c G → AllTyped mode E ts c (D ++ G) Ts → AllTyped mode E (inst_all d us ts) c D Ts
    all_inst_typed no_exprs c D G Ts us d n e h = h
    all_inst_typed (expr t ts) c D G Ts us d n e h = (h.0, h.1, h.2, inst_typed t c D G h.0 us d n e h.3, all_inst_typed ts c D G h.1 us d n e h.4)

    pub arms_inst_typed : (arms : Arms) (c : Home) (D G : List Typ) (A T : Typ) (us : Written) (d : ℕ) → d ≡ length D → WrittenTyped mode E us c G → ArmsTyped mode E arms c (D ++ G) A T → ArmsTyped mode E (inst_arms d us arms) c D A T
    arms_inst_typed no_arms c D G A T us d n e h = tt
    arms_inst_typed (arm p t rest) c D G A T us d n e h =
        let l = fits_length p c A h.0 h.1 in
        (h.0, h.1, inst_typed t c (h.0 ++ D) G T us (binders p + d) (sym (length-append h.0 D ∙ omega (arith, l, n))) e (subst (λ X. Typed mode E t c X T) (sym (append_assoc h.0 D G)) h.2), arms_inst_typed rest c D G A T us d n e h.3)

  -- a pattern that fits gives its variables values of their types
  given_fits : (b : Bool) (o : Option Written) (us : Written) → given b o ≡ Some us → o ≡ Some us
  given_fits b o us h = (given_some b o h).1

  nothing_more : (ws us : Written) (c : Home) (G Us : List Typ) → Us ≡ [] → Some ws ≡ Some us → WrittenTyped mode E ws c G → WrittenTyped mode E us c (Us ++ G)
  nothing_more ws us c G Us q e h = subst (λ X. WrittenTyped mode E us c (X ++ G)) (sym q) (subst (λ x. WrittenTyped mode E x c G) (some_eq e) h)

  then_fits : (f : Written → Option Written) (o : Option Written) (us : Written) → option_and_then f o ≡ Some us → (vs : Written) × (o ≡ Some vs) × (f vs ≡ Some us)
  then_fits f None us h = absurd (none≢some h)
  then_fits f (Some vs) us h = (vs, refl, h)

  mutual
    pub fit_typed : (p : Pattern) (v : Value) (ws us : Written) (c : Home) (A : Typ) (G Us : List Typ) → fit p v ws ≡ Some us → IsOf c A v → Fits mode E p c A Us → WrittenTyped mode E ws c G → WrittenTyped mode E us c (Us ++ G)
    fit_typed PWild v ws us c A G Us e k h w = nothing_more ws us c G Us h e w
    fit_typed (PVar U) v ws us c A G Us e k h w = subst (λ x. WrittenTyped mode E x c (Us ++ G)) (some_eq e) (G, ap (λ X. X ++ G) h.1 ∙ ap (λ X. X ∷ G) h.0, subst (λ X. IsOf c X v) h.0 k, w, h.2)
    fit_typed (PInt n) (VInt x) ws us c A G Us e k h w = nothing_more ws us c G Us h.1 (given_fits _ (Some ws) us e) w
    fit_typed (PBool b) (VBool x) ws us c A G Us e k h w = nothing_more ws us c G Us h.1 (given_fits _ (Some ws) us e) w
    fit_typed (PStr s) (VStr x) ws us c A G Us e k h w = nothing_more ws us c G Us h.1 (given_fits _ (Some ws) us e) w
    fit_typed PUnit VUnit ws us c A G Us e k h w = nothing_more ws us c G Us h.1 e w
    fit_typed (PTuple ps) (VTuple vs) ws us c A G Us e k h w =
        let q = k.1 in
        let r = h.1 in
        let s : k.0 ≡ h.0 = cc in
        all_fit_typed ps vs ws us c h.0 G Us e (subst (λ X. ValuesTyped mode E vs c X) s k.2) h.2 w
    fit_typed PNil (VNil B) ws us c A G Us e k h w = nothing_more ws us c G Us h.2 e w
    fit_typed (PCons p q) (VCons x y) ws us c A G Us e k h w =
        let a = k.1 in
        let b = h.3 in
        let s : k.0 ≡ h.0 = cc in
        let f = then_fits (fit q y) (fit p x ws) us e in
        subst (WrittenTyped mode E us c) (sym (ap (λ X. X ++ G) h.6 ∙ append_assoc h.2 h.1 G))
        (fit_typed q y f.0 us c (TList h.0) (h.1 ++ G) h.2 f.2 (subst (λ X. IsOf c (TList X) y) s k.3) h.5 (fit_typed p x ws f.0 c h.0 G h.1 f.1 (subst (λ X. IsOf c X x) s k.2) h.4 w))
    fit_typed PAbsent (VAbsent B) ws us c A G Us e k h w = nothing_more ws us c G Us h.2 e w
    fit_typed (PPresent p) (VPresent x) ws us c A G Us e k h w =
        let a = k.1 in
        let b = h.1 in
        let s : k.0 ≡ h.0 = cc in
        fit_typed p x ws us c h.0 G Us e (subst (λ X. IsOf c X x) s k.2) h.2 w
    fit_typed (PExn n) (VExn j None) ws us c A G Us e k h w = nothing_more ws us c G Us h.1 (given_fits (nat_eq n j) (Some ws) us e) w
    fit_typed (PExnOf n p) (VExn j (Some s)) ws us c A G Us e k h w = fit_typed p (VStr s) ws us c TStr G Us (given_fits (nat_eq n j) (fit p (VStr s) ws) us e) refl h.1 w
    fit_typed _ _ ws us c A G Us e k h w = absurd (none≢some e)

    pub all_fit_typed : (ps : Patterns) (vs : Values) (ws us : Written) (c : Home) (As : Typs) (G Us : List Typ) → fit_all ps vs ws ≡ Some us → ValuesTyped mode E vs c As → AllFit mode E ps c As Us → WrittenTyped mode E ws c G → WrittenTyped mode E us c (Us ++ G)
    all_fit_typed no_patterns no_values ws us c As G Us e k h w = nothing_more ws us c G Us h e w
    all_fit_typed (pattern' p ps) (value v vs) ws us c As G Us e k h w =
        let a = k.2 in
        let b = h.4 in
        let s : k.0 ≡ h.0 = cc in
        let r : k.1 ≡ h.1 = cc in
        let f = then_fits (fit_all ps vs) (fit p v ws) us e in
        subst (WrittenTyped mode E us c) (sym (ap (λ X. X ++ G) h.7 ∙ append_assoc h.3 h.2 G))
        (all_fit_typed ps vs f.0 us c h.1 (h.2 ++ G) h.3 f.2 (subst (λ X. ValuesTyped mode E vs c X) r k.4) h.6 (fit_typed p v ws f.0 c h.0 G h.2 f.1 (subst (λ X. IsOf c X v) s k.3) h.5 w))
    all_fit_typed _ _ ws us c As G Us e k h w = absurd (none≢some e)
