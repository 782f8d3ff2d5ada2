-- What is typed stays typed as the definitions grow: terms, values and values that are written for variables.
use Rattle.std.proofs.Common.{◌≡◌, sym, ap, ap₂, ◌∙◌, subst, List, [], ◌∷◌, ◌++◌, Some}
use Rattle.std.specs.Prelude.{ℕ, option_map, slice_get}
use Rattle.ac_types.specs.Types.{Typ, TBool, TStr, TExn, TList, TFun, TAbs, Typs}
use Rattle.ac_terms.specs.Terms.{Home, Pattern, PWild, PVar, PInt, PBool, PStr, PUnit, PTuple, PNil, PCons, PAbsent, PPresent, PExn, PExnOf, Patterns, no_patterns, pattern', Expr, Int, Boolean, Str, Unit', Exn, ExnOf, Tuple, Nil, Empty, Present, Cons, Var, Own, Ref, Lam, Rec, App, Let, If, Seq, Match, Try, Raise, Prim, Marshal, Unmarshal, Val, Evaluated, Bracket, Exprs, no_exprs, expr, Arms, no_arms, arm, Value, VInt, VBool, VStr, VUnit, VExn, VTuple, VNil, VCons, VAbsent, VPresent, VLam, VRec, VProxy, VSeal, Values, no_values, value}
use Rattle.ac_terms.specs.Defs.{Environment, Field}
use Rattle.ac_rules.specs.Views.{Mode, Coloured}
use Rattle.ac_meaning.specs.Substitution.{Written}
use Rattle.ac_rules.specs.Growth.{Widening}
use Rattle.ac_meaning.specs.Typed.{own_type, as_seen, Known, IsHome, Fits, AllFit, Typed, AllTyped, ArmsTyped, ValueTyped, ValuesTyped, WrittenTyped}
use Rattle.ac_meaning.proofs.KnownNames.{known_types}
use Rattle.ac_rules.proofs.Growth.{known_more, home_more, opens_same, fields_same, view_same, value_more}

module _ (E F : Environment) (g : Widening E F) where
  pub own_same : (c : Home) (f : ℕ) (A : Typ) → IsHome Coloured E c → own_type E c f ≡ Some A → own_type F c f ≡ Some A
  own_same c f A h e = ap (λ fs. option_map (λ (x : Field). x.ty) (slice_get fs f)) (fields_same E F g c h) ∙ e

module _ (mode : Mode) (E F : Environment) (g : Widening E F) where
  -- what is seen
  same : (c : Home) (A : Typ) → IsHome mode E c → Known mode E A → as_seen mode E c A ≡ as_seen mode F c A
  same c A h k = sym (view_same E F g mode c A h k)

  -- a type that is seen, in an equation
  still : (c : Home) (A T : Typ) → IsHome mode E c → Known mode E A → T ≡ as_seen mode E c A → T ≡ as_seen mode F c A
  still c A T h k e = e ∙ same c A h k

  mutual
    fits_more : (p : Pattern) (c : Home) (A : Typ) (Us : List Typ) → IsHome mode E c → Fits mode E p c A Us → Fits mode F p c A Us
    fits_more PWild c A Us o h = h
    fits_more (PVar U) c A Us o h = (still c U A o h.2 h.0, h.1, known_more E F g U h.2)
    fits_more (PInt n) c A Us o h = h
    fits_more (PBool b) c A Us o h = h
    fits_more (PStr s) c A Us o h = h
    fits_more PUnit c A Us o h = h
    fits_more (PTuple ps) c A Us o h = (h.0, h.1, all_fit_more ps c h.0 Us o h.2)
    fits_more PNil c A Us o h = h
    fits_more (PCons p q) c A Us o h = (h.0, h.1, h.2, h.3, fits_more p c h.0 h.1 o h.4, fits_more q c (TList h.0) h.2 o h.5, h.6)
    fits_more PAbsent c A Us o h = h
    fits_more (PPresent p) c A Us o h = (h.0, h.1, fits_more p c h.0 Us o h.2)
    fits_more (PExn k) c A Us o h = h
    fits_more (PExnOf k p) c A Us o h = (h.0, fits_more p c TStr Us o h.1)

    all_fit_more : (ps : Patterns) (c : Home) (As : Typs) (Us : List Typ) → IsHome mode E c → AllFit mode E ps c As Us → AllFit mode F ps c As Us
    all_fit_more no_patterns c As Us o h = h
    all_fit_more (pattern' p ps) c As Us o h = (h.0, h.1, h.2, h.3, h.4, fits_more p c h.0 h.2 o h.5, all_fit_more ps c h.1 h.3 o h.6, h.7)

  mutual
    pub typed_more : (t : Expr) (c : Home) (G : List Typ) (T : Typ) → IsHome mode E c → Typed mode E t c G T → Typed mode F t c G T
    typed_more (Int n) c G T o h = h
    typed_more (Boolean b) c G T o h = h
    typed_more (Str s) c G T o h = h
    typed_more Unit' c G T o h = h
    typed_more (Exn k) c G T o h = h
    typed_more (ExnOf k e) c G T o h = (h.0, typed_more e c G TStr o h.1)
    typed_more (Tuple es) c G T o h = (h.0, h.1, all_typed_more es c G h.0 o h.2)
    typed_more (Nil A) c G T o h = (h.0, h.1, still c A T o h.3 h.2, known_more E F g A h.3)
    typed_more (Empty A) c G T o h = (h.0, h.1, still c A T o h.3 h.2, known_more E F g A h.3)
    typed_more (Present e) c G T o h = (h.0, h.1, typed_more e c G h.0 o h.2)
    typed_more (Cons a b) c G T o h = (h.0, h.1, typed_more a c G h.0 o h.2, typed_more b c G (TList h.0) o h.3)
    typed_more (Var i) c G T o h = h
    typed_more (Own f) c G T o h = let known = known_types E g.before in (h.0, own_same E F g c f h.0 o h.1, still c h.0 T o (known.own c f h.0 h.1) h.2)
    typed_more (Ref j x) c G T o h = let known = known_types E g.before in (h.0, value_more E F g j x h.0 h.1, still c h.0 T o (known.values j x h.0 h.1) h.2)
    typed_more (Lam A e) c G T o h =
        let s = same c A o h.3 in
        (h.0, h.1 ∙ ap (λ X. TFun X h.0) s, subst (λ X. Typed mode F e c (X ∷ G) h.0) s (typed_more e c (as_seen mode E c A ∷ G) h.0 o h.2), known_more E F g A h.3)
    typed_more (Rec A B e) c G T o h =
        let s = same c A o h.2 in
        let r = same c B o h.3 in (
          h.0 ∙ ap₂ TFun s r,
          subst (λ X. Typed mode F e c (X ∷ TFun X (as_seen mode F c B) ∷ G) (as_seen mode F c B)) s
              (subst (λ Y. Typed mode F e c (as_seen mode E c A ∷ TFun (as_seen mode E c A) Y ∷ G) Y) r (typed_more e c (as_seen mode E c A ∷ TFun (as_seen mode E c A) (as_seen mode E c B) ∷ G) (as_seen mode E c B) o h.1)),
          known_more E F g A h.2,
          known_more E F g B h.3,
        )
    typed_more (App f a) c G T o h = (h.0, typed_more f c G (TFun h.0 T) o h.1, typed_more a c G h.0 o h.2)
    typed_more (Let A e b) c G T o h =
        let s = same c A o h.2 in
        (subst (λ X. Typed mode F e c G X) s (typed_more e c G (as_seen mode E c A) o h.0), subst (λ X. Typed mode F b c (X ∷ G) T) s (typed_more b c (as_seen mode E c A ∷ G) T o h.1), known_more E F g A h.2)
    typed_more (If e a b) c G T o h = (typed_more e c G TBool o h.0, typed_more a c G T o h.1, typed_more b c G T o h.2)
    typed_more (Seq es) c G T o h = (h.0, all_typed_more es c G h.0 o h.1, h.2)
    typed_more (Match e arms) c G T o h = (h.0, typed_more e c G h.0 o h.1, arms_typed_more arms c G h.0 T o h.2, h.3)
    typed_more (Try e arms) c G T o h = (typed_more e c G T o h.0, arms_typed_more arms c G TExn T o h.1, h.2)
    typed_more (Raise A e) c G T o h = (still c A T o h.2 h.0, typed_more e c G TExn o h.1, known_more E F g A h.2)
    typed_more (Prim k es) c G T o h = (h.0, all_typed_more es c G h.0 o h.1, h.2)
    typed_more (Marshal A m e) c G T o h =
        (h.0, typed_more m c G TStr o h.1, subst (λ X. Typed mode F e c G X) (same c A o h.3) (typed_more e c G (as_seen mode E c A) o h.2), known_more E F g A h.3)
    typed_more (Unmarshal A e) c G T o h = (still c A T o h.2 h.0, typed_more e c G TStr o h.1, known_more E F g A h.2)
    typed_more (Val A v) c G T o h = absurd h
    typed_more (Evaluated A v) c G T o h = (still c A T o h.2 h.0, value_typed_more v c T o h.1, known_more E F g A h.2)
    typed_more (Bracket b A e) c G T o h =
        (still c A T o h.1 h.0, known_more E F g A h.1, subst (λ X. Typed mode F e b [] X) (same b A h.3 h.1) (typed_more e b [] (as_seen mode E b A) h.3 h.2), home_more E F g b h.3)

    pub all_typed_more : (es : Exprs) (c : Home) (G : List Typ) (Ts : Typs) → IsHome mode E c → AllTyped mode E es c G Ts → AllTyped mode F es c G Ts
    all_typed_more no_exprs c G Ts o h = h
    all_typed_more (expr e es) c G Ts o h = (h.0, h.1, h.2, typed_more e c G h.0 o h.3, all_typed_more es c G h.1 o h.4)

    pub arms_typed_more : (arms : Arms) (c : Home) (G : List Typ) (A T : Typ) → IsHome mode E c → ArmsTyped mode E arms c G A T → ArmsTyped mode F arms c G A T
    arms_typed_more no_arms c G A T o h = tt
    arms_typed_more (arm p e rest) c G A T o h = (h.0, fits_more p c A h.0 o h.1, typed_more e c (h.0 ++ G) T o h.2, arms_typed_more rest c G A T o h.3)

    pub value_typed_more : (v : Value) (c : Home) (T : Typ) → IsHome mode E c → ValueTyped mode E v c T → ValueTyped mode F v c T
    value_typed_more (VInt n) c T o h = h
    value_typed_more (VBool b) c T o h = h
    value_typed_more (VStr s) c T o h = h
    value_typed_more VUnit c T o h = h
    value_typed_more (VExn k s) c T o h = h
    value_typed_more (VTuple vs) c T o h = (h.0, h.1, values_typed_more vs c h.0 o h.2)
    value_typed_more (VNil A) c T o h = (h.0, h.1, still c A T o h.3 h.2, known_more E F g A h.3)
    value_typed_more (VCons v w) c T o h = (h.0, h.1, value_typed_more v c h.0 o h.2, value_typed_more w c (TList h.0) o h.3)
    value_typed_more (VAbsent A) c T o h = (h.0, h.1, still c A T o h.3 h.2, known_more E F g A h.3)
    value_typed_more (VPresent v) c T o h = (h.0, h.1, value_typed_more v c h.0 o h.2)
    value_typed_more (VLam A e) c T o h =
        let s = same c A o h.3 in
        (h.0, h.1 ∙ ap (λ X. TFun X h.0) s, subst (λ X. Typed mode F e c (X ∷ []) h.0) s (typed_more e c (as_seen mode E c A ∷ []) h.0 o h.2), known_more E F g A h.3)
    value_typed_more (VRec A B e) c T o h =
        let s = same c A o h.2 in
        let r = same c B o h.3 in (
          h.0 ∙ ap₂ TFun s r,
          subst (λ X. Typed mode F e c (X ∷ TFun X (as_seen mode F c B) ∷ []) (as_seen mode F c B)) s
              (subst (λ Y. Typed mode F e c (as_seen mode E c A ∷ TFun (as_seen mode E c A) Y ∷ []) Y) r (typed_more e c (as_seen mode E c A ∷ TFun (as_seen mode E c A) (as_seen mode E c B) ∷ []) (as_seen mode E c B) o h.1)),
          known_more E F g A h.2,
          known_more E F g B h.3,
        )
    value_typed_more (VProxy b A B f) c T o h =
        (h.0 ∙ ap₂ TFun (same c A o h.1) (same c B o h.2), known_more E F g A h.1, known_more E F g B h.2, subst (λ X. ValueTyped mode F f b X) (ap₂ TFun (same b A h.4 h.1) (same b B h.4 h.2)) (value_typed_more f b (TFun (as_seen mode E b A) (as_seen mode E b B)) h.4 h.3), home_more E F g b h.4)
    value_typed_more (VSeal b n t v) c T o h = (
      h.0,
      known_more E F g (TAbs n t) h.1,
      opens_same E F g mode b h.5 n ∙ h.2,
      opens_same E F g mode c o n ∙ h.3,
      subst (λ X. ValueTyped mode F v b X) (same b (TAbs n t) h.5 h.1) (value_typed_more v b (as_seen mode E b (TAbs n t)) h.5 h.4),
      home_more E F g b h.5,
    )

    pub values_typed_more : (vs : Values) (c : Home) (Ts : Typs) → IsHome mode E c → ValuesTyped mode E vs c Ts → ValuesTyped mode F vs c Ts
    values_typed_more no_values c Ts o h = h
    values_typed_more (value v vs) c Ts o h = (h.0, h.1, h.2, value_typed_more v c h.0 o h.3, values_typed_more vs c h.1 o h.4)

  pub written_more : (ws : Written) (c : Home) (G : List Typ) → IsHome mode E c → WrittenTyped mode E ws c G → WrittenTyped mode F ws c G
  written_more [] c G o h = h
  written_more (w ∷ ws) c G o h =
      let s = same c w.0 o h.4 in
      (h.0, h.1 ∙ ap (λ X. X ∷ h.0) s, subst (λ X. ValueTyped mode F w.1 c X) s (value_typed_more w.1 c (as_seen mode E c w.0) o h.2), written_more ws c h.0 o h.3, known_more E F g w.0 h.4)
