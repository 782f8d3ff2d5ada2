-- Typing as the reduction keeps it, in either mode: the rules without bounds on the size of types and the numbers of exceptions, and with what a bracket, a proxy and a seal have inside. Each type that is seen is known, and each home that is named is one, so that it is kept as the definitions grow.
use Rattle.std.specs.Prelude.{◌≡◌, true, false, List, [], ◌∷◌, ◌++◌, Some, Option, ℕ}
use Rattle.std.specs.Prelude.{option_map, slice_get}
use Rattle.ac_types.specs.Types.{Typ, TInt, TBool, TStr, TUnit, TExn, TTuple, TList, TOpt, TFun, TAbs, Typs, no_types, typ}
use Rattle.ac_terms.specs.Terms.{Home, Pattern, PWild, PVar, PInt, PBool, PStr, PUnit, PTuple, PNil, PCons, PAbsent, PPresent, PExn, PExnOf, Patterns, no_patterns, pattern', Expr, Int, Boolean, Str, Unit', Exn, ExnOf, Tuple, Nil, Empty, Present, Cons, Var, Own, Ref, Lam, Rec, App, Let, If, Seq, Match, Try, Raise, Prim, Marshal, Unmarshal, Val, Evaluated, Bracket, Exprs, no_exprs, expr, Arms, no_arms, arm, Value, VInt, VBool, VStr, VUnit, VExn, VTuple, VNil, VCons, VAbsent, VPresent, VLam, VRec, VProxy, VSeal, Values, no_values, value}
use Rattle.ac_terms.specs.Defs.{Environment, Field}
use Rattle.ac_terms.specs.PrimitiveTypes.{primitive_type}
use Rattle.ac_rules.specs.Views.{Mode, opens, view, are_known}
use Rattle.ac_rules.specs.Typing.{is_home, fields_of, value_in}
use Rattle.ac_meaning.specs.Substitution.{Written}

-- the type that field f of a home writes
abbrev pub own_type : Environment → Home → ℕ → Option Typ
own_type E c f = option_map (λ (x : Field). x.ty) (slice_get (fields_of E c) f)

-- the last of some types, behind units
abbrev pub IsLast : Typs → Typ → Type 0
IsLast no_types T = ⊥
IsLast (typ U no_types) T = U ≡ T
IsLast (typ U (typ V Vs)) T = (U ≡ TUnit) × IsLast (typ V Vs) T

abbrev pub HasArm : Arms → Type 0
HasArm no_arms = ⊥
HasArm (arm p e rest) = Unit {0}

module _ (mode : Mode) (E : Environment) where
  abbrev pub as_seen : Home → Typ → Typ
  as_seen c T = view mode E c T

  abbrev pub Known : Typ → Type 0
  Known T = are_known E T ≡ true

  abbrev pub IsHome : Home → Type 0
  IsHome c = is_home E c ≡ true

  -- a pattern of type A gives its variables these types, the newest first
  abbrev mutual
    pub Fits : Pattern → Home → Typ → List Typ → Type 0
    Fits PWild c A Us = Us ≡ []
    Fits (PVar U) c A Us = (A ≡ as_seen c U) × (Us ≡ A ∷ []) × Known U
    Fits (PInt n) c A Us = (A ≡ TInt) × (Us ≡ [])
    Fits (PBool b) c A Us = (A ≡ TBool) × (Us ≡ [])
    Fits (PStr s) c A Us = (A ≡ TStr) × (Us ≡ [])
    Fits PUnit c A Us = (A ≡ TUnit) × (Us ≡ [])
    Fits (PTuple ps) c A Us = (As : Typs) × (A ≡ TTuple As) × AllFit ps c As Us
    Fits PNil c A Us = (B : Typ) × (A ≡ TList B) × (Us ≡ [])
    Fits (PCons p q) c A Us = (B : Typ) × (Vs Ws : List Typ) × (A ≡ TList B) × Fits p c B Vs × Fits q c (TList B) Ws × (Us ≡ Ws ++ Vs)
    Fits PAbsent c A Us = (B : Typ) × (A ≡ TOpt B) × (Us ≡ [])
    Fits (PPresent p) c A Us = (B : Typ) × (A ≡ TOpt B) × Fits p c B Us
    Fits (PExn k) c A Us = (A ≡ TExn) × (Us ≡ [])
    Fits (PExnOf k p) c A Us = (A ≡ TExn) × Fits p c TStr Us

    pub AllFit : Patterns → Home → Typs → List Typ → Type 0
    AllFit no_patterns c As Us = Us ≡ []
    AllFit (pattern' p ps) c As Us = (B : Typ) × (Bs : Typs) × (Vs Ws : List Typ) × (As ≡ typ B Bs) × Fits p c B Vs × AllFit ps c Bs Ws × (Us ≡ Ws ++ Vs)

  -- a term of home c whose variables have the types G, the newest first
  abbrev mutual
    pub Typed : Expr → Home → List Typ → Typ → Type 0
    Typed (Int n) c G T = T ≡ TInt
    Typed (Boolean b) c G T = T ≡ TBool
    Typed (Str s) c G T = T ≡ TStr
    Typed Unit' c G T = T ≡ TUnit
    Typed (Exn k) c G T = T ≡ TExn
    Typed (ExnOf k e) c G T = (T ≡ TExn) × Typed e c G TStr
    Typed (Tuple es) c G T = (Ts : Typs) × (T ≡ TTuple Ts) × AllTyped es c G Ts
    Typed (Nil A) c G T = (B : Typ) × (T ≡ TList B) × (T ≡ as_seen c A) × Known A
    Typed (Empty A) c G T = (B : Typ) × (T ≡ TOpt B) × (T ≡ as_seen c A) × Known A
    Typed (Present e) c G T = (A : Typ) × (T ≡ TOpt A) × Typed e c G A
    Typed (Cons a b) c G T = (A : Typ) × (T ≡ TList A) × Typed a c G A × Typed b c G (TList A)
    Typed (Var i) c G T = slice_get G i ≡ Some T
    Typed (Own f) c G T = (A : Typ) × (own_type E c f ≡ Some A) × (T ≡ as_seen c A)
    Typed (Ref j x) c G T = (A : Typ) × (value_in E j x ≡ Some A) × (T ≡ as_seen c A)
    Typed (Lam A e) c G T = (B : Typ) × (T ≡ TFun (as_seen c A) B) × Typed e c (as_seen c A ∷ G) B × Known A
    Typed (Rec A B e) c G T = (T ≡ TFun (as_seen c A) (as_seen c B)) × Typed e c (as_seen c A ∷ TFun (as_seen c A) (as_seen c B) ∷ G) (as_seen c B) × Known A × Known B
    Typed (App f a) c G T = (A : Typ) × Typed f c G (TFun A T) × Typed a c G A
    Typed (Let A e b) c G T = Typed e c G (as_seen c A) × Typed b c (as_seen c A ∷ G) T × Known A
    Typed (If e a b) c G T = Typed e c G TBool × Typed a c G T × Typed b c G T
    Typed (Seq es) c G T = (Ts : Typs) × AllTyped es c G Ts × IsLast Ts T
    Typed (Match e arms) c G T = (A : Typ) × Typed e c G A × ArmsTyped arms c G A T × HasArm arms
    Typed (Try e arms) c G T = Typed e c G T × ArmsTyped arms c G TExn T × HasArm arms
    Typed (Raise A e) c G T = (T ≡ as_seen c A) × Typed e c G TExn × Known A
    Typed (Prim k es) c G T = (Ts : Typs) × AllTyped es c G Ts × (primitive_type k Ts ≡ Some T)
    Typed (Marshal A m e) c G T = (T ≡ TStr) × Typed m c G TStr × Typed e c G (as_seen c A) × Known A
    Typed (Unmarshal A e) c G T = (T ≡ as_seen c A) × Typed e c G TStr × Known A
    Typed (Val A v) c G T = ⊥
    Typed (Evaluated A v) c G T = (T ≡ as_seen c A) × ValueTyped v c T × Known A
    Typed (Bracket b A e) c G T = (T ≡ as_seen c A) × Known A × Typed e b [] (as_seen b A) × IsHome b

    pub AllTyped : Exprs → Home → List Typ → Typs → Type 0
    AllTyped no_exprs c G Ts = Ts ≡ no_types
    AllTyped (expr e es) c G Ts = (U : Typ) × (Us : Typs) × (Ts ≡ typ U Us) × Typed e c G U × AllTyped es c G Us

    -- arms for a value of type A
    pub ArmsTyped : Arms → Home → List Typ → Typ → Typ → Type 0
    ArmsTyped no_arms c G A T = Unit {0}
    ArmsTyped (arm p e rest) c G A T = (Us : List Typ) × Fits p c A Us × Typed e c (Us ++ G) T × ArmsTyped rest c G A T

    pub ValueTyped : Value → Home → Typ → Type 0
    ValueTyped (VInt n) c T = T ≡ TInt
    ValueTyped (VBool b) c T = T ≡ TBool
    ValueTyped (VStr s) c T = T ≡ TStr
    ValueTyped VUnit c T = T ≡ TUnit
    ValueTyped (VExn k s) c T = T ≡ TExn
    ValueTyped (VTuple vs) c T = (Ts : Typs) × (T ≡ TTuple Ts) × ValuesTyped vs c Ts
    ValueTyped (VNil A) c T = (B : Typ) × (T ≡ TList B) × (T ≡ as_seen c A) × Known A
    ValueTyped (VCons v w) c T = (A : Typ) × (T ≡ TList A) × ValueTyped v c A × ValueTyped w c (TList A)
    ValueTyped (VAbsent A) c T = (B : Typ) × (T ≡ TOpt B) × (T ≡ as_seen c A) × Known A
    ValueTyped (VPresent v) c T = (A : Typ) × (T ≡ TOpt A) × ValueTyped v c A
    ValueTyped (VLam A e) c T = (B : Typ) × (T ≡ TFun (as_seen c A) B) × Typed e c (as_seen c A ∷ []) B × Known A
    ValueTyped (VRec A B e) c T = (T ≡ TFun (as_seen c A) (as_seen c B)) × Typed e c (as_seen c A ∷ TFun (as_seen c A) (as_seen c B) ∷ []) (as_seen c B) × Known A × Known B
    ValueTyped (VProxy b A B f) c T = (T ≡ TFun (as_seen c A) (as_seen c B)) × Known A × Known B × ValueTyped f b (TFun (as_seen b A) (as_seen b B)) × IsHome b
    ValueTyped (VSeal b n t v) c T = (T ≡ TAbs n t) × Known (TAbs n t) × (opens mode E b n ≡ true) × (opens mode E c n ≡ false) × ValueTyped v b (as_seen b (TAbs n t)) × IsHome b

    pub ValuesTyped : Values → Home → Typs → Type 0
    ValuesTyped no_values c Ts = Ts ≡ no_types
    ValuesTyped (value v vs) c Ts = (U : Typ) × (Us : Typs) × (Ts ≡ typ U Us) × ValueTyped v c U × ValuesTyped vs c Us

  -- values written for variables of these types
  abbrev pub WrittenTyped : Written → Home → List Typ → Type 0
  WrittenTyped [] c G = G ≡ []
  WrittenTyped (w ∷ ws) c G = (H : List Typ) × (G ≡ as_seen c w.0 ∷ H) × ValueTyped w.1 c (as_seen c w.0) × WrittenTyped ws c H × Known w.0
