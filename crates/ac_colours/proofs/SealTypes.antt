-- Each seal in a typed term is typed; so one of a first-order type that tells births has one.
use Rattle.std.proofs.Common.{sym, ap, ◌∙◌, subst, List, [], ◌∷◌, ◌++◌}
use Rattle.ac_types.proofs.FirstLaws.{some_eq}
use Rattle.ac_types.specs.Types.{Typ, TBool, TStr, TExn, TFun, TList, TAbs, Typs}
use Rattle.ac_terms.specs.Terms.{Home, Expr, ExnOf, Tuple, Present, Cons, Lam, Rec, App, Let, If, Seq, Match, Try, Raise, Prim, Marshal, Unmarshal, Val, Evaluated, Bracket, Exprs, no_exprs, expr, Arms, no_arms, arm, Value, VTuple, VCons, VPresent, VLam, VRec, VProxy, VSeal, Values, no_values, value}
use Rattle.ac_terms.specs.Defs.{Environment}
use Rattle.ac_rules.specs.Views.{Coloured}
use Rattle.ac_rules.specs.Coherent.{IsCoherent}
use Rattle.ac_meaning.specs.Typed.{as_seen, Typed, AllTyped, ArmsTyped, ValueTyped, ValuesTyped}
use Rattle.ac_colours.specs.Births.{Seal, Event, IsAmong, Birth, birth, told, births}
use Rattle.ac_colours.specs.Chains.{HasBirth}
use Rattle.ac_colours.specs.Sealed.{Saying, Sealed, AllSealed, ArmsSealed, ValueSealed, ValuesSealed}
use Rattle.ac_colours.proofs.Says.{Told}
use Rattle.ac_colours.proofs.TellsOne.{tells_one}
use Rattle.ac_colours.proofs.ToldGrows.{BornIn, born_more, tells}

module _ (E : Environment) where
  -- a seal that is typed, in some home
  abbrev pub IsTypedSeal : Saying
  IsTypedSeal b n t v = (c : Home) × (T : Typ) × ValueTyped Coloured E (VSeal b n t v) c T

  mutual
    seals_typed : (e : Expr) (c : Home) (G : List Typ) (T : Typ) → Typed Coloured E e c G T → Sealed IsTypedSeal e
    seals_typed (ExnOf k e) c G T t = seals_typed e c G TStr t.1
    seals_typed (Tuple es) c G T t = all_seals_typed es c G t.0 t.2
    seals_typed (Present e) c G T t = seals_typed e c G t.0 t.2
    seals_typed (Cons a b) c G T t = (seals_typed a c G t.0 t.2, seals_typed b c G (TList t.0) t.3)
    seals_typed (Lam A e) c G T t = seals_typed e c (as_seen Coloured E c A ∷ G) t.0 t.2
    seals_typed (Rec A B e) c G T t = seals_typed e c (as_seen Coloured E c A ∷ TFun (as_seen Coloured E c A) (as_seen Coloured E c B) ∷ G) (as_seen Coloured E c B) t.1
    seals_typed (App f a) c G T t = (seals_typed f c G (TFun t.0 T) t.1, seals_typed a c G t.0 t.2)
    seals_typed (Let A e b) c G T t = (seals_typed e c G (as_seen Coloured E c A) t.0, seals_typed b c (as_seen Coloured E c A ∷ G) T t.1)
    seals_typed (If e a b) c G T t = (seals_typed e c G TBool t.0, seals_typed a c G T t.1, seals_typed b c G T t.2)
    seals_typed (Seq es) c G T t = all_seals_typed es c G t.0 t.1
    seals_typed (Match e arms) c G T t = (seals_typed e c G t.0 t.1, arms_seals_typed arms c G t.0 T t.2)
    seals_typed (Try e arms) c G T t = (seals_typed e c G T t.0, arms_seals_typed arms c G TExn T t.1)
    seals_typed (Raise A e) c G T t = seals_typed e c G TExn t.1
    seals_typed (Prim k es) c G T t = all_seals_typed es c G t.0 t.1
    seals_typed (Marshal A m e) c G T t = (seals_typed m c G TStr t.1, seals_typed e c G (as_seen Coloured E c A) t.2)
    seals_typed (Unmarshal A e) c G T t = seals_typed e c G TStr t.1
    seals_typed (Evaluated A v) c G T t = value_seals_typed v c T t.1
    seals_typed (Bracket b A e) c G T t = seals_typed e b [] (as_seen Coloured E b A) t.2
    seals_typed (Val A v) c G T t = absurd t
    seals_typed _ c G T t = tt

    all_seals_typed : (es : Exprs) (c : Home) (G : List Typ) (Ts : Typs) → AllTyped Coloured E es c G Ts → AllSealed IsTypedSeal es
    all_seals_typed no_exprs c G Ts t = tt
    all_seals_typed (expr e es) c G Ts t = (seals_typed e c G t.0 t.3, all_seals_typed es c G t.1 t.4)

    arms_seals_typed : (arms : Arms) (c : Home) (G : List Typ) (A T : Typ) → ArmsTyped Coloured E arms c G A T → ArmsSealed IsTypedSeal arms
    arms_seals_typed no_arms c G A T t = tt
    arms_seals_typed (arm p e rest) c G A T t = (seals_typed e c (t.0 ++ G) T t.2, arms_seals_typed rest c G A T t.3)

    pub value_seals_typed : (v : Value) (c : Home) (T : Typ) → ValueTyped Coloured E v c T → ValueSealed IsTypedSeal v
    value_seals_typed (VTuple vs) c T t = values_seals_typed vs c t.0 t.2
    value_seals_typed (VCons v w) c T t = (value_seals_typed v c t.0 t.2, value_seals_typed w c (TList t.0) t.3)
    value_seals_typed (VPresent v) c T t = value_seals_typed v c t.0 t.2
    value_seals_typed (VLam A e) c T t = seals_typed e c (as_seen Coloured E c A ∷ []) t.0 t.2
    value_seals_typed (VRec A B e) c T t = seals_typed e c (as_seen Coloured E c A ∷ TFun (as_seen Coloured E c A) (as_seen Coloured E c B) ∷ []) (as_seen Coloured E c B) t.1
    value_seals_typed (VProxy b A B f) c T t = value_seals_typed f b (TFun (as_seen Coloured E b A) (as_seen Coloured E b B)) t.3
    value_seals_typed (VSeal b n u v) c T t = ((c, T, t), value_seals_typed v b (as_seen Coloured E b (TAbs n u)) t.4)
    value_seals_typed _ c T t = tt

    values_seals_typed : (vs : Values) (c : Home) (Ts : Typs) → ValuesTyped Coloured E vs c Ts → ValuesSealed IsTypedSeal vs
    values_seals_typed no_values c Ts t = tt
    values_seals_typed (value v vs) c Ts t = (value_seals_typed v c t.0 t.3, values_seals_typed vs c t.1 t.4)

-- a typed seal that tells births of these events has its birth there
pub has_birth : (E : Environment) → IsCoherent E → (before : List Event) (x : Seal) → IsTypedSeal E x.of_home x.of_name x.of_type x.value_inside → Told E (BornIn before) x.of_home x.of_name x.of_type x.value_inside → HasBirth E x before
has_birth E i before x t told f = let p = tells_one E x.of_home t.0 x.of_name x.of_type x.value_inside t.1 i t.2 f in (p.0, p.1, told p.0 f p.1)

-- and has it when more has happened
pub birth_stays : (E : Environment) (x : Seal) (before later : List Event) → HasBirth E x before → HasBirth E x (before ++ later)
birth_stays E x before later h f = let p = h f in (p.0, p.1, born_more before later x.of_name x.of_type p.0 p.2)

-- it tells nothing else
pub tells_its_birth : (E : Environment) (x : Seal) (before : List Event) → HasBirth E x before → (b : Birth) → IsAmong b (told E x) → IsAmong b (births before)
tells_its_birth E x before h b j =
    let y = tells E x.of_home x.of_name x.of_type x.value_inside b j in
    let p = h y.1 in
    subst (λ d. IsAmong d (births before)) (sym (y.3 ∙ ap (birth x.of_name x.of_type) (some_eq (sym y.2 ∙ p.1)))) p.2
