-- A typed value is packed alike with brackets and without.
use Rattle.std.proofs.Common.{◌≡◌, refl, ap, ap₂, Option, Some, None, List}
use Rattle.ac_types.specs.Types.{Typ, TList, Typs, no_types, typ}
use Rattle.ac_terms.specs.Terms.{Home, Expr, Int, Boolean, Str, Unit', Exn, ExnOf, Tuple, Nil, Empty, Present, Cons, Var, Own, Ref, Lam, Rec, App, Let, If, Seq, Match, Try, Raise, Prim, Marshal, Unmarshal, Val, Evaluated, Bracket, Exprs, no_exprs, expr, Arms, no_arms, arm, PValue, KTuple, KPresent, pvalue, Value, VInt, VBool, VStr, VUnit, VExn, VTuple, VNil, VCons, VAbsent, VPresent, VLam, VRec, VProxy, VSeal, Values, no_values, value}
use Rattle.ac_terms.specs.Defs.{Environment}
use Rattle.ac_rules.specs.Views.{Mode, head}
use Rattle.ac_rules.specs.Typing.{tuple_parts, list_item, option_item}
use Rattle.ac_rules.specs.Plain.{where_there, in_front, travelling, packed, all_packed, packed_term, packed_terms, packed_arms}
use Rattle.ac_meaning.specs.BareTerms.{bare_term, bare_all, bare_arms, bare_value, bare_values}
use Rattle.ac_meaning.specs.BarePacking.{bare_packed, bare_all_packed, bare_packed_term, bare_packed_terms, bare_packed_arms}
use Rattle.ac_meaning.specs.Typed.{Typed, AllTyped, ArmsTyped, ValueTyped, ValuesTyped}
use Rattle.ac_meaning.proofs.Inst.{ap₃}

there_same : {A : Type 0} (o : Option A) (f g : A → PValue) → ((a : A) → f a ≡ g a) → where_there o f ≡ where_there o g
there_same None f g h = refl
there_same (Some a) f g h = h a

module _ (mode : Mode) (E : Environment) where
  mutual
    pub packed_alike : (v : Value) (c : Home) (X T : Typ) → ValueTyped mode E v c X → bare_packed E (bare_value c v) T ≡ packed E c v T
    packed_alike (VInt n) c X T w = refl
    packed_alike (VBool b) c X T w = refl
    packed_alike (VStr s) c X T w = refl
    packed_alike VUnit c X T w = refl
    packed_alike (VExn k s) c X T w = refl
    packed_alike (VTuple vs) c X T w =
        there_same (tuple_parts (head E T)) (λ Ts. KTuple (bare_all_packed E (bare_values c vs) Ts)) (λ Ts. KTuple (all_packed E c vs Ts)) (λ Ts. ap KTuple (all_packed_alike vs c w.0 Ts w.2))
    packed_alike (VNil U) c X T w = refl
    packed_alike (VCons v u) c X T w =
        ap₂ in_front (there_same (list_item (head E T)) (λ U. bare_packed E (bare_value c v) U) (λ U. packed E c v U) (λ U. packed_alike v c w.0 U w.2)) (packed_alike u c (TList w.0) T w.3)
    packed_alike (VAbsent U) c X T w = refl
    packed_alike (VPresent v) c X T w =
        there_same (option_item (head E T)) (λ U. KPresent (bare_packed E (bare_value c v) U)) (λ U. KPresent (packed E c v U)) (λ U. ap KPresent (packed_alike v c w.0 U w.2))
    packed_alike (VLam U e) c X T w = ap (λ x. travelling E c (Lam U x) T) (term_alike e c _ w.0 w.2)
    packed_alike (VRec U B e) c X T w = ap (λ x. travelling E c (Rec U B x) T) (term_alike e c _ _ w.1)
    packed_alike (VProxy h U B f) c X T w = packed_alike f h _ T w.3
    packed_alike (VSeal h n t v) c X T w = packed_alike v h _ T w.4

    all_packed_alike : (vs : Values) (c : Home) (Xs Ts : Typs) → ValuesTyped mode E vs c Xs → bare_all_packed E (bare_values c vs) Ts ≡ all_packed E c vs Ts
    all_packed_alike no_values c Xs no_types w = refl
    all_packed_alike no_values c Xs (typ T Ts) w = refl
    all_packed_alike (value v vs) c Xs no_types w = refl
    all_packed_alike (value v vs) c Xs (typ T Ts) w = ap₂ pvalue (packed_alike v c w.0 T w.3) (all_packed_alike vs c w.1 Ts w.4)

    term_alike : (e : Expr) (c : Home) (G : List Typ) (X : Typ) → Typed mode E e c G X → bare_packed_term E (bare_term c e) ≡ packed_term E c e
    term_alike (Int n) c G X w = refl
    term_alike (Boolean b) c G X w = refl
    term_alike (Str s) c G X w = refl
    term_alike Unit' c G X w = refl
    term_alike (Exn k) c G X w = refl
    term_alike (ExnOf k e) c G X w = ap (ExnOf k) (term_alike e c G _ w.1)
    term_alike (Tuple es) c G X w = ap Tuple (terms_alike es c G w.0 w.2)
    term_alike (Nil T) c G X w = refl
    term_alike (Empty T) c G X w = refl
    term_alike (Present e) c G X w = ap Present (term_alike e c G w.0 w.2)
    term_alike (Cons a b) c G X w = ap₂ Cons (term_alike a c G _ w.2) (term_alike b c G _ w.3)
    term_alike (Var i) c G X w = refl
    term_alike (Own f) c G X w = refl
    term_alike (Ref j x) c G X w = refl
    term_alike (Lam T e) c G X w = ap (Lam T) (term_alike e c _ w.0 w.2)
    term_alike (Rec T U e) c G X w = ap (Rec T U) (term_alike e c _ _ w.1)
    term_alike (App f a) c G X w = ap₂ App (term_alike f c G _ w.1) (term_alike a c G _ w.2)
    term_alike (Let T e b) c G X w = ap₂ (Let T) (term_alike e c G _ w.0) (term_alike b c _ _ w.1)
    term_alike (If a b d) c G X w = ap₃ If (term_alike a c G _ w.0) (term_alike b c G _ w.1) (term_alike d c G _ w.2)
    term_alike (Seq es) c G X w = ap Seq (terms_alike es c G w.0 w.1)
    term_alike (Match e arms) c G X w = ap₂ Match (term_alike e c G _ w.1) (arms_alike arms c G w.0 X w.2)
    term_alike (Try e arms) c G X w = ap₂ Try (term_alike e c G _ w.0) (arms_alike arms c G _ X w.1)
    term_alike (Raise T e) c G X w = ap (Raise T) (term_alike e c G _ w.1)
    term_alike (Prim k es) c G X w = ap (Prim k) (terms_alike es c G w.0 w.1)
    term_alike (Marshal T m e) c G X w = ap₂ (Marshal T) (term_alike m c G _ w.1) (term_alike e c G _ w.2)
    term_alike (Unmarshal T e) c G X w = ap (Unmarshal T) (term_alike e c G _ w.1)
    term_alike (Val T v) c G X w = absurd w
    term_alike (Evaluated T v) c G X w = ap (Val T) (packed_alike v c X T w.1)
    term_alike (Bracket b T e) c G X w = refl

    terms_alike : (es : Exprs) (c : Home) (G : List Typ) (Xs : Typs) → AllTyped mode E es c G Xs → bare_packed_terms E (bare_all c es) ≡ packed_terms E c es
    terms_alike no_exprs c G Xs w = refl
    terms_alike (expr e es) c G Xs w = ap₂ expr (term_alike e c G _ w.3) (terms_alike es c G _ w.4)

    arms_alike : (arms : Arms) (c : Home) (G : List Typ) (A X : Typ) → ArmsTyped mode E arms c G A X → bare_packed_arms E (bare_arms c arms) ≡ packed_arms E c arms
    arms_alike no_arms c G A X w = refl
    arms_alike (arm p e rest) c G A X w = ap₂ (arm p) (term_alike e c _ X w.2) (arms_alike rest c G A X w.3)
