-- A packed value that holds at a type has the form that the type wants, and so has each value that it has captured.
use Rattle.std.proofs.Common.{◌≡◌, refl, sym, true, false, ◌&&◌, Some}
use Rattle.std.specs.Option.{option_map_or}
use mathlib.Core.Bool.{true≢false}
use Rattle.ac_types.proofs.Same.{both_true}
use Rattle.ac_types.specs.Types.{Typ, TStr, TExn, TTuple, TList, TOpt, TFun, Typs, no_types, typ}
use Rattle.ac_types.specs.Partial.{agree}
use Rattle.ac_terms.specs.Terms.{Expr, ExnOf, Tuple, Present, Cons, Lam, Rec, App, Let, If, Seq, Match, Try, Raise, Prim, Marshal, Unmarshal, Val, Evaluated, Bracket, Exprs, no_exprs, expr, Arms, no_arms, arm, PValue, KTuple, KList, KPresent, KFun, PValues, no_pvalues, pvalue}
use Rattle.ac_terms.specs.Defs.{Environment}
use Rattle.ac_rules.specs.Views.{Coloured, view, head}
use Rattle.ac_rules.specs.Typing.{Scope, bind, bind_all, all_of, is_function, is_function_home, tuple_parts, list_item, option_item, type_seen, variables, HasType, types_of, type_of, arm_types, holds, all_hold, each_holds}
use Rattle.ac_rules.proofs.Rules.{then_some, rule-ExnOf, rule-Tuple, rule-expr, rule-Present, rule-Cons, rule-Lam, rule-App, rule-If, rule-Let, rule-Rec, rule-Seq, rule-Match, rule-Try, rule-Raise, rule-Prim, rule-Marshal, rule-Unmarshal, rule-Val, agree_some, also_some}
use Rattle.ac_rules.proofs.Carried.{Any, IsStill, AreStill, StillArms, HasStill, AllHaveStill}
use Rattle.ac_colours.proofs.Brings.{Sits, AllSit, EachSits, TermSits, TermsSit, ArmsSit}

module _ (E : Environment) where
  mutual
    term_sits : (e : Expr) (S : Scope) (T : Typ) → IsStill Any e → HasType Coloured E S e T → TermSits E e
    term_sits (ExnOf k e) S T w h = term_sits e S TStr w (rule-ExnOf Coloured E S k e T h).1
    term_sits (Tuple es) S T w h = let p = rule-Tuple Coloured E S es T h in terms_sit es S p.0 w p.1
    term_sits (Present e) S T w h = let p = rule-Present Coloured E S e T h in term_sits e S p.0 w p.1
    term_sits (Cons a b) S T w h = let p = rule-Cons Coloured E S a b T h in (term_sits a S p.1.0 w.0 p.1.1, term_sits b S T w.1 p.0)
    term_sits (Lam A e) S T w h = let p = rule-Lam Coloured E S A e T h in term_sits e (bind (view Coloured E S.home A) S) p.1.0 w p.1.1
    term_sits (Rec A B e) S T w h = let p = rule-Rec Coloured E S A B e T h in term_sits e _ _ w p.2
    term_sits (App f a) S T w h = let p = rule-App Coloured E S f a T h in (term_sits f S _ w.0 p.1, term_sits a S p.0 w.1 p.2)
    term_sits (Let A e b) S T w h = let p = rule-Let Coloured E S A e b T h in (term_sits e S _ w.0 p.1, term_sits b (bind (view Coloured E S.home A) S) T w.1 p.2)
    term_sits (If c a b) S T w h = let p = rule-If Coloured E S c a b T h in (term_sits c S _ w.0 p.0, term_sits a S T w.1 p.1, term_sits b S T w.2 p.2)
    term_sits (Seq es) S T w h = let p = rule-Seq Coloured E S es T h in terms_sit es S p.0 w p.1
    term_sits (Match e arms) S T w h = let p = rule-Match Coloured E S e arms T h in (term_sits e S p.0 w.0 p.1, arms_sit arms S p.0 p.2.0 w.1 p.2.1)
    term_sits (Try e arms) S T w h = let p = rule-Try Coloured E S e arms T h in (term_sits e S T w.0 p.0, arms_sit arms S TExn p.1.0 w.1 p.1.1)
    term_sits (Raise A e) S T w h = let p = rule-Raise Coloured E S A e T h in term_sits e S TExn w p.0
    term_sits (Prim k es) S T w h = let p = rule-Prim Coloured E S k es T h in terms_sit es S p.0 w p.1
    term_sits (Marshal A m e) S T w h = let p = rule-Marshal Coloured E S A m e T h in (term_sits m S TStr w.0 p.0, term_sits e S _ w.1 p.2)
    term_sits (Unmarshal A e) S T w h = let p = rule-Unmarshal Coloured E S A e T h in term_sits e S TStr w p.0
    term_sits (Val A v) S T w h = let p = rule-Val Coloured E S A v T h in (p.1, holds_sits v A w.0 p.0)
    term_sits (Evaluated A v) S T w h = absurd w
    term_sits (Bracket c A e) S T w h = absurd w
    term_sits _ S T w h = tt

    terms_sit : (es : Exprs) (S : Scope) (Ts : Typs) → AreStill Any es → types_of Coloured false E S es ≡ Some Ts → TermsSit E es
    terms_sit no_exprs S Ts w h = tt
    terms_sit (expr e es) S Ts w h = let p = rule-expr Coloured E S e es Ts h in (term_sits e S p.0 w.0 p.2, terms_sit es S p.1 w.1 p.3)

    arms_sit : (arms : Arms) (S : Scope) (A : Typ) (Ts : Typs) → StillArms Any arms → arm_types Coloured false E S A arms ≡ Some Ts → ArmsSit E arms
    arms_sit no_arms S A Ts w h = tt
    arms_sit (arm p e rest) S A Ts w h =
        let q = also_some _ _ Ts h in
        let v = then_some _ (variables Coloured false E S.home p A) q.0 q.2 in
        (term_sits e (bind_all v.0 S) q.0 w.0 v.2, arms_sit rest S A q.1 w.1 q.3)

    pub holds_sits : (v : PValue) (T : Typ) → HasStill Any v → holds Coloured false E v T ≡ true → Sits E T v
    holds_sits (KTuple vs) T w h = by (λ Ts q. all_hold_sit vs Ts w q) (head E T) refl h
      where
        by : ((Ts : Typs) → all_hold Coloured false E vs Ts ≡ true → AllSit E Ts vs) → (X : Typ) → head E T ≡ X → option_map_or (λ Ts. all_hold Coloured false E vs Ts) (tuple_parts X) false ≡ true → Sits E T (KTuple vs)
        by f (TTuple Ts) e q = (Ts, e, f Ts q)
        by f _ e q = absurd (true≢false (sym q))
    holds_sits (KList vs) T w h = by (λ U q. each_holds_sits vs U w q) (head E T) refl h
      where
        by : ((U : Typ) → each_holds Coloured false E vs U ≡ true → EachSits E U vs) → (X : Typ) → head E T ≡ X → option_map_or (λ U. each_holds Coloured false E vs U) (list_item X) false ≡ true → Sits E T (KList vs)
        by f (TList U) e q = (U, e, f U q)
        by f _ e q = absurd (true≢false (sym q))
    holds_sits (KPresent v) T w h = by (λ U q. holds_sits v U w q) (head E T) refl h
      where
        by : ((U : Typ) → holds Coloured false E v U ≡ true → Sits E U v) → (X : Typ) → head E T ≡ X → option_map_or (λ U. holds Coloured false E v U) (option_item X) false ≡ true → Sits E T (KPresent v)
        by f (TOpt U) e q = (U, e, f U q)
        by f _ e q = absurd (true≢false (sym q))
    holds_sits (KFun c l) T w h =
        let p = both_true (is_function (head E T) && is_function_home E c) (agree (type_of Coloured false E (all_of E c) l) (type_seen Coloured false E c (head E T))) h in
        let q = both_true (is_function (head E T)) (is_function_home E c) p.0 in
        let a = agree_some _ _ p.1 in
        by (term_sits l (all_of E c) a.0 w a.1) (head E T) refl q.0
      where
        by : TermSits E l → (X : Typ) → head E T ≡ X → is_function X ≡ true → Sits E T (KFun c l)
        by f (TFun A B) e q = (A, B, e, f)
        by f _ e q = absurd (true≢false (sym q))
    holds_sits _ T w h = tt

    all_hold_sit : (vs : PValues) (Ts : Typs) → AllHaveStill Any vs → all_hold Coloured false E vs Ts ≡ true → AllSit E Ts vs
    all_hold_sit no_pvalues no_types w h = tt
    all_hold_sit (pvalue v vs) (typ T Ts) w h = let p = both_true (holds Coloured false E v T) (all_hold Coloured false E vs Ts) h in (holds_sits v T w.0 p.0, all_hold_sit vs Ts w.1 p.1)
    all_hold_sit (pvalue v vs) no_types w h = absurd (true≢false (sym h))
    all_hold_sit no_pvalues (typ T Ts) w h = absurd (true≢false (sym h))

    each_holds_sits : (vs : PValues) (U : Typ) → AllHaveStill Any vs → each_holds Coloured false E vs U ≡ true → EachSits E U vs
    each_holds_sits no_pvalues U w h = tt
    each_holds_sits (pvalue v vs) U w h = let p = both_true (holds Coloured false E v U) (each_holds Coloured false E vs U) h in (holds_sits v U w.0 p.0, each_holds_sits vs U w.1 p.1)
