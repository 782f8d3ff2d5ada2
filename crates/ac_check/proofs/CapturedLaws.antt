-- A term of the code has a type exactly where it has that type with captured values counting as of theirs, and each of these is of its own.
use Rattle.std.proofs.Common.{◌≡◌, refl, sym, ap, ap₂, ◌∙◌, Bool, true, false, ◌&&◌, List, Option, Some, None}
use Rattle.std.specs.Prelude.{option_map, option_and_then}
use Rattle.ac_types.specs.Partial.{given, agree, has, both_same, also}
use Rattle.ac_types.specs.Types.{Typ, TInt, TBool, TStr, TUnit, TExn, TTuple, TList, TOpt, TFun, TAbs, TMine, Typs, no_types, typ}
use Rattle.ac_types.proofs.Same.{both_true}
use Rattle.ac_terms.specs.Terms.{Home, Pattern, PWild, PVar, PInt, PBool, PStr, PUnit, PTuple, PNil, PCons, PAbsent, PPresent, PExn, PExnOf, Patterns, no_patterns, pattern', Expr, Int, Boolean, Str, Unit', Exn, ExnOf, Tuple, Nil, Empty, Present, Cons, Var, Own, Ref, Lam, Rec, App, Let, If, Seq, Match, Try, Raise, Prim, Marshal, Unmarshal, Val, Evaluated, Bracket, Exprs, no_exprs, expr, Arms, no_arms, arm}
use Rattle.ac_terms.specs.Defs.{Environment}
use Rattle.ac_types.specs.Exceptions.{has_text}
use Rattle.ac_terms.specs.PrimitiveTypes.{primitive_type}
use Rattle.ac_rules.specs.Views.{Coloured}
use Rattle.ac_rules.specs.Typing.{Scope, bind, bind_all, type_of, types_of, arm_types, one_of, type_applied, type_seen, kept_in, variables, variables_of_all, variables_joined, last_of}
use Rattle.ac_check.specs.inner.Captured.{captured_hold, all_captured_hold, arms_captured_hold, is_code, are_code, arms_are_code}
use Rattle.ac_check.proofs.Strict.{none_given, given_both, strict_one, strict_two, strict_three, under}
use mathlib.Core.Bool.{true≢false}

-- rules without the type of a part

no_argument : (o : Option Typ) → type_applied o None ≡ None
no_argument None = refl
no_argument (Some TInt) = refl
no_argument (Some TBool) = refl
no_argument (Some TStr) = refl
no_argument (Some TUnit) = refl
no_argument (Some TExn) = refl
no_argument (Some (TTuple Ts)) = refl
no_argument (Some (TList T)) = refl
no_argument (Some (TOpt T)) = refl
no_argument (Some (TFun A B)) = refl
no_argument (Some (TAbs n t)) = refl
no_argument (Some (TMine t)) = refl

none_same : (o : Option Typ) → both_same o None ≡ None
none_same None = refl
none_same (Some T) = refl

no_rest : (o : Option Typ) → also o None ≡ None
no_rest None = refl
no_rest (Some T) = refl

neither : {A : Type 0} (b : Bool) (o : Option A) → given (b && false) o ≡ None
neither true o = refl
neither false o = refl

-- the variables of a pattern are the same
mutual
  alike : (E : Environment) (c : Home) (p : Pattern) (T : Typ) → variables Coloured false E c p T ≡ variables Coloured true E c p T
  alike E c PWild T = refl
  alike E c (PVar U) T = refl
  alike E c (PInt n) T = refl
  alike E c (PBool b) T = refl
  alike E c (PStr s) T = refl
  alike E c PUnit T = refl
  alike E c (PTuple ps) (TTuple Ts) = all_alike E c ps Ts
  alike E c (PTuple ps) T = refl
  alike E c PNil (TList T) = refl
  alike E c PNil T = refl
  alike E c (PCons p q) (TList T) = ap₂ variables_joined (alike E c p T) (alike E c q (TList T))
  alike E c (PCons p q) T = refl
  alike E c PAbsent (TOpt T) = refl
  alike E c PAbsent T = refl
  alike E c (PPresent p) (TOpt T) = alike E c p T
  alike E c (PPresent p) T = refl
  alike E c (PExn k) TExn = refl
  alike E c (PExn k) T = refl
  alike E c (PExnOf k p) TExn = ap (given (has_text k)) (alike E c p TStr)
  alike E c (PExnOf k p) T = refl

  all_alike : (E : Environment) (c : Home) (ps : Patterns) (Ts : Typs) → variables_of_all Coloured false E c ps Ts ≡ variables_of_all Coloured true E c ps Ts
  all_alike E c no_patterns no_types = refl
  all_alike E c no_patterns (typ T Ts) = refl
  all_alike E c (pattern' p ps) no_types = refl
  all_alike E c (pattern' p ps) (typ T Ts) = ap₂ variables_joined (alike E c p T) (all_alike E c ps Ts)

module _ (E : Environment) where
  -- the type of a term, and the one where captured values count as of theirs
  abbrev exact : Scope → Expr → Option Typ
  exact S e = type_of Coloured false E S e

  abbrev declared : Scope → Expr → Option Typ
  declared S e = type_of Coloured true E S e

  abbrev seen : Scope → Typ → Option Typ
  seen S T = type_seen Coloured true E S.home T

  abbrev K : Option Typ → Option Typ
  K o = kept_in Coloured o

  abbrev H : Expr → Bool
  H e = captured_hold E e

  mutual
    pub split : (e : Expr) → is_code e ≡ true → (S : Scope) → exact S e ≡ given (H e) (declared S e)
    split (Int n) c S = refl
    split (Boolean b) c S = refl
    split (Str s) c S = refl
    split Unit' c S = refl
    split (Exn k) c S = refl
    split (ExnOf k e) c S =
        let R = λ (o : Option Typ). given (has_text k && has o TStr) (Some TExn) in
        ap R (split e c S) ∙ strict_one R (neither (has_text k) (Some TExn)) (H e) (declared S e)
    split (Tuple es) c S =
        let R = λ (o : Option Typs). K (option_map TTuple o) in
        ap R (splits es c S) ∙ strict_one R refl (all_captured_hold E es) (types_of Coloured true E S es)
    split (Nil T) c S = refl
    split (Empty T) c S = refl
    split (Present e) c S =
        let R = λ (o : Option Typ). K (option_map TOpt o) in
        ap R (split e c S) ∙ strict_one R refl (H e) (declared S e)
    split (Cons a b) c S =
        let p = both_true _ _ c in
        let R = λ (x y : Option Typ). both_same (option_map TList x) y in
        ap₂ R (split a p.0 S) (split b p.1 S)
        ∙ strict_two R (λ y. refl) (λ x. none_same (option_map TList x)) (H a) (H b) (declared S a) (declared S b)
    split (Var i) c S = refl
    split (Own f) c S = refl
    split (Ref j x) c S = refl
    split (Lam T e) c S =
        let R = λ (A : Typ) (o : Option Typ). K (option_map (TFun A) o) in
        under (λ A. R A (exact (bind A S) e)) (λ A. R A (declared (bind A S) e)) (H e)
        (λ A. ap (R A) (split e c (bind A S)) ∙ strict_one (R A) refl (H e) (declared (bind A S) e)) (seen S T)
    split (Rec T U e) c S =
        let inner = λ (A B : Typ). bind A (bind (TFun A B) S) in
        let R = λ (A B : Typ) (o : Option Typ). K (given (has o B) (Some (TFun A B))) in
        under (λ A. option_and_then (λ B. R A B (exact (inner A B) e)) (seen S U)) (λ A. option_and_then (λ B. R A B (declared (inner A B) e)) (seen S U)) (H e)
        (λ A. under (λ B. R A B (exact (inner A B) e)) (λ B. R A B (declared (inner A B) e)) (H e)
        (λ B. ap (R A B) (split e c (inner A B)) ∙ strict_one (R A B) refl (H e) (declared (inner A B) e)) (seen S U)) (seen S T)
    split (App f a) c S =
        let p = both_true _ _ c in
        ap₂ type_applied (split f p.0 S) (split a p.1 S) ∙ strict_two type_applied (λ y. refl) no_argument (H f) (H a) (declared S f) (declared S a)
    split (Let T e b) c S =
        let p = both_true _ _ c in
        let R = λ (A : Typ) (x y : Option Typ). given (has x A) y in
        under (λ A. R A (exact S e) (exact (bind A S) b)) (λ A. R A (declared S e) (declared (bind A S) b)) (H e && H b)
        (λ A. ap₂ (R A) (split e p.0 S) (split b p.1 (bind A S))
        ∙ strict_two (R A) (λ y. refl) (λ x. none_given (has x A)) (H e) (H b) (declared S e) (declared (bind A S) b)) (seen S T)
    split (If d a b) c S =
        let p = both_true _ _ c in
        let q = both_true _ _ p.1 in
        let R = λ (x y z : Option Typ). given (has x TBool) (both_same y z) in
        ap (λ (x : Option Typ). R x (exact S a) (exact S b)) (split d p.0 S) ∙ ap₂ (R (given (H d) (declared S d))) (split a q.0 S) (split b q.1 S)
        ∙ strict_three R (λ y z. refl) (λ x z. none_given (has x TBool)) (λ x y. ap (given (has x TBool)) (none_same y) ∙ none_given (has x TBool))
        (H d) (H a) (H b) (declared S d) (declared S a) (declared S b)
    split (Seq es) c S =
        let R = λ (o : Option Typs). option_and_then last_of o in
        ap R (splits es c S) ∙ strict_one R refl (all_captured_hold E es) (types_of Coloured true E S es)
    split (Match e arms) c S =
        let p = both_true _ _ c in
        let k = arms_captured_hold E arms in
        let R = λ (b : Bool) (T : Typ). option_and_then one_of (arm_types Coloured b E S T arms) in
        ap (option_and_then (R false)) (split e p.0 S) ∙ strict_one (option_and_then (R false)) refl (H e) (declared S e)
        ∙ ap (given (H e)) (under (R false) (R true) k
        (λ T. ap (option_and_then one_of) (arms_split arms p.1 S T) ∙ strict_one (option_and_then one_of) refl k (arm_types Coloured true E S T arms)) (declared S e))
        ∙ given_both (H e) k (option_and_then (R true) (declared S e))
    split (Try e arms) c S =
        let p = both_true _ _ c in
        let R = λ (x : Option Typ) (y : Option Typs). both_same x (option_and_then one_of y) in
        ap₂ R (split e p.0 S) (arms_split arms p.1 S TExn)
        ∙ strict_two R (λ y. refl) none_same (H e) (arms_captured_hold E arms) (declared S e) (arm_types Coloured true E S TExn arms)
    split (Raise T e) c S =
        let R = λ (o : Option Typ). given (has o TExn) (K (seen S T)) in
        ap R (split e c S) ∙ strict_one R refl (H e) (declared S e)
    split (Prim k es) c S =
        let R = λ (o : Option Typs). option_and_then (primitive_type k) o in
        ap R (splits es c S) ∙ strict_one R refl (all_captured_hold E es) (types_of Coloured true E S es)
    split (Marshal T m e) c S =
        let p = both_true _ _ c in
        let R = λ (x y : Option Typ). given (has x TStr && agree y (seen S T)) (Some TStr) in
        ap₂ R (split m p.0 S) (split e p.1 S)
        ∙ strict_two R (λ y. refl) (λ x. neither (has x TStr) (Some TStr)) (H m) (H e) (declared S m) (declared S e)
    split (Unmarshal T e) c S =
        let R = λ (o : Option Typ). given (has o TStr) (K (seen S T)) in
        ap R (split e c S) ∙ strict_one R refl (H e) (declared S e)
    split (Val T v) c S = refl
    split (Evaluated T v) c S = absurd (true≢false (sym c))
    split (Bracket d T e) c S = absurd (true≢false (sym c))

    splits : (es : Exprs) → are_code es ≡ true → (S : Scope) → types_of Coloured false E S es ≡ given (all_captured_hold E es) (types_of Coloured true E S es)
    splits no_exprs c S = refl
    splits (expr e es) c S =
        let p = both_true _ _ c in
        ap₂ also (split e p.0 S) (splits es p.1 S)
        ∙ strict_two also (λ y. refl) no_rest (H e) (all_captured_hold E es) (declared S e) (types_of Coloured true E S es)

    arms_split : (arms : Arms) → arms_are_code arms ≡ true → (S : Scope) (T : Typ)
        → arm_types Coloured false E S T arms ≡ given (arms_captured_hold E arms) (arm_types Coloured true E S T arms)
    arms_split no_arms c S T = refl
    arms_split (arm p e rest) c S T =
        let q = both_true _ _ c in
        let body = λ (Us : List Typ). declared (bind_all Us S) e in
        ap₂ also
        (ap (option_and_then (λ (Us : List Typ). exact (bind_all Us S) e)) (alike E S.home p T)
        ∙ under (λ (Us : List Typ). exact (bind_all Us S) e) body (H e) (λ Us. split e q.0 (bind_all Us S)) (variables Coloured true E S.home p T))
        (arms_split rest q.1 S T)
        ∙ strict_two also (λ y. refl) no_rest (H e) (arms_captured_hold E rest) (option_and_then body (variables Coloured true E S.home p T)) (arm_types Coloured true E S T rest)
