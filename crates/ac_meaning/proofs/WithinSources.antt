-- What is typed and within the bounds of its spelling, with small types, is within the bounds as the reduction keeps them: terms of the source, and what is rebuilt of packed values.
use Rattle.std.proofs.Common.{◌≡◌, refl, sym, ap, ap₂, ◌∙◌, subst, ℕ, zero, suc, ◌≤◌, Bool, true, false, ◌&&◌, List, [], ◌∷◌, ◌++◌, map, Option, Some, None}
use Rattle.std.specs.Prelude.{nat_le}
use Rattle.std.specs.List.{list_all}
use Rattle.std.specs.Option.{option_map_or}
use Rattle.std.proofs.lemmas.Bool.Decides.{nat_tests}
use mathlib.Core.Bool.{true≢false}
use native.Mathlib.Omega.{arith}
use Rattle.ac_types.specs.Partial.{given, has}
use Rattle.ac_types.proofs.FirstLaws.{none≢some, some_eq, given_some}
use Rattle.ac_types.proofs.Same.{both_true, and_true}
use Rattle.ac_types.specs.Types.{Bytes, Typ, TInt, TBool, TStr, TUnit, TExn, TTuple, TList, TOpt, TFun, TAbs, TMine, Typs, no_types, typ, with_each, all_with_each, node_count, parts_of_all, height, height_of_all, is_small}
use Rattle.ac_terms.specs.Terms.{Home, Expr, Int, Boolean, Str, Unit', Exn, ExnOf, Tuple, Nil, Empty, Present, Cons, Var, Own, Ref, Lam, Rec, App, Let, If, Seq, Match, Try, Raise, Prim, Marshal, Unmarshal, Val, Evaluated, Bracket, Exprs, no_exprs, expr, Arms, no_arms, arm, PValue, KInt, KBool, KStr, KUnit, KExn, KTuple, KList, KAbsent, KPresent, KFun, PValues, no_pvalues, pvalue, Value, VInt, VBool, VStr, VUnit, VExn, VTuple, VAbsent, VPresent, VLam, VRec, VProxy}
use Rattle.ac_terms.specs.Defs.{Environment}
use Rattle.ac_terms.specs.PrimitiveTypes.{primitives}
use Rattle.ac_terms.specs.Spelling.{term_count, arm_count, value_count}
use Rattle.ac_terms.specs.Parts.{Portion, OfType, OfRef, OfHome, Captured, pattern_types, term_parts, all_term_parts, arm_parts, value_parts, all_value_parts}
use Rattle.ac_terms.specs.Bounds.{is_four, is_width, takes, fits_term, fit_terms, fit_arms, fits_value, fit_values, has_small_types}
use Rattle.ac_rules.specs.Views.{Mode, Coloured, view, opened_at_home, opens, head}
use Rattle.ac_rules.specs.Typing.{Scope, bind, bind_all, all_of, HasType, type_of, type_seen, types_of, arm_types, variables, holds, all_hold, each_holds, kept_in, tuple_parts, list_item, option_item, is_function, is_function_home}
use Rattle.ac_rules.proofs.Rules.{then_some, rule-ExnOf, rule-Tuple, rule-expr, rule-Present, rule-Cons, rule-Lam, rule-App, rule-If, rule-Let, rule-Rec, rule-Seq, rule-Match, rule-Try, rule-Raise, rule-Prim, rule-Marshal, rule-Unmarshal, rule-Val, agree_some, also_some}
use Rattle.ac_meaning.specs.Laws.{is_source, are_source, arms_are_source}
use Rattle.ac_meaning.specs.Rebuilding.{parts_of, item_of, argument_of, result_of, at_abstract, sealed, rebuilt, all_rebuilt, list_rebuilt, rebuilt_term, rebuilt_terms, rebuilt_arms}
use Rattle.ac_meaning.proofs.Sources.{left, middle}
use Rattle.ac_meaning.proofs.Within.{Within, AllWithin, ArmsWithin, ValueWithin, ValuesWithin, width}

-- parts of small types
pub small_parts : (ps qs : List Portion) → has_small_types (ps ++ qs) ≡ true → (has_small_types ps ≡ true) × (has_small_types qs ≡ true)
small_parts [] qs h = (refl, h)
small_parts (OfType T ∷ ps) qs h =
    let p = both_true (is_small T) (has_small_types (ps ++ qs)) h in
    let r = small_parts ps qs p.1 in
    (and_true {a = is_small T} {b = has_small_types ps} p.0 r.0, r.1)
small_parts (OfRef j x ∷ ps) qs h = small_parts ps qs h
small_parts (OfHome c ∷ ps) qs h = small_parts ps qs h
small_parts (Captured ∷ ps) qs h = small_parts ps qs h

small_types : (Ts : List Typ) → has_small_types (map OfType Ts) ≡ true → list_all is_small Ts ≡ true
small_types [] h = refl
small_types (T ∷ Ts) h = let p = both_true (is_small T) (has_small_types (map OfType Ts)) h in and_true {a = is_small T} {b = list_all is_small Ts} p.0 (small_types Ts p.1)

pub one_small : (T : Typ) (ps : List Portion) → has_small_types (OfType T ∷ ps) ≡ true → (is_small T ≡ true) × (has_small_types ps ≡ true)
one_small T ps h = both_true (is_small T) (has_small_types ps) h

-- a type isn't larger than what a home sees of it
mutual
  some_parts : (T : Typ) → 1 ≤ node_count T
  some_parts (TTuple Ts) = omega arith
  some_parts (TList T) = omega arith
  some_parts (TOpt T) = omega arith
  some_parts (TFun T U) = omega arith
  some_parts _ = omega arith

  some_height : (T : Typ) → 1 ≤ height T
  some_height (TTuple Ts) = omega arith
  some_height (TList T) = omega arith
  some_height (TOpt T) = omega arith
  some_height (TFun T U) = omega arith
  some_height _ = omega arith

module _ (f : Bytes → Bytes → Typ) where
  mutual
    parts_seen : (T : Typ) → node_count T ≤ node_count (with_each f T)
    parts_seen (TTuple Ts) = let a = all_parts_seen Ts in omega (arith, a)
    parts_seen (TList T) = let a = parts_seen T in omega (arith, a)
    parts_seen (TOpt T) = let a = parts_seen T in omega (arith, a)
    parts_seen (TFun T U) = let a = parts_seen T in let b = parts_seen U in omega (arith, a, b)
    parts_seen (TAbs n t) = some_parts (f n t)
    parts_seen _ = omega arith

    all_parts_seen : (Ts : Typs) → parts_of_all Ts ≤ parts_of_all (all_with_each f Ts)
    all_parts_seen no_types = omega arith
    all_parts_seen (typ T Ts) = let a = parts_seen T in let b = all_parts_seen Ts in omega (arith, a, b)

  mutual
    height_seen : (T : Typ) → height T ≤ height (with_each f T)
    height_seen (TTuple Ts) = let a = all_height_seen Ts in omega (arith, a)
    height_seen (TList T) = let a = height_seen T in omega (arith, a)
    height_seen (TOpt T) = let a = height_seen T in omega (arith, a)
    height_seen (TFun T U) = let a = height_seen T in let b = height_seen U in omega (arith, a, b)
    height_seen (TAbs n t) = some_height (f n t)
    height_seen _ = omega arith

    all_height_seen : (Ts : Typs) → height_of_all Ts ≤ height_of_all (all_with_each f Ts)
    all_height_seen no_types = omega arith
    all_height_seen (typ T Ts) = let a = height_seen T in let b = all_height_seen Ts in omega (arith, a, b)

  le_both : (a b m : ℕ) → a ≤ b → nat_le b m ≡ true → nat_le a m ≡ true
  le_both a b m l h = grind (arith, nat_tests)

  pub small_seen : (T : Typ) → is_small (with_each f T) ≡ true → is_small T ≡ true
  small_seen T h =
      let p = both_true (nat_le (node_count (with_each f T)) 4096) (nat_le (height (with_each f T)) 100) h in
      and_true {a = nat_le (node_count T) 4096} {b = nat_le (height T) 100} (le_both (node_count T) (node_count (with_each f T)) 4096 (parts_seen T) p.0) (le_both (height T) (height (with_each f T)) 100 (height_seen T) p.1)

pub kept_small : (o : Option Typ) (T : Typ) → kept_in Coloured o ≡ Some T → is_small T ≡ true
kept_small None T h = absurd (none≢some h)
kept_small (Some U) T h = let p = given_some (is_small U) (Some U) h in subst (λ X. is_small X ≡ true) (some_eq p.1) p.0

-- a recursive function's type
rec_small : (E : Environment) (S : Scope) (A B : Typ) (e : Expr) (T : Typ) → HasType Coloured E S (Rec A B e) T → is_small (TFun A B) ≡ true
rec_small E S A B e T h =
    let p = then_some _ (type_seen Coloured false E S.home A) T h in
    let q = then_some _ (type_seen Coloured false E S.home B) T p.2 in
    let s : is_small T ≡ true = kept_small (given (has (type_of Coloured false E (bind p.0 (bind (TFun p.0 q.0) S)) e) q.0) (Some (TFun p.0 q.0))) T q.2 in
    small_seen (opened_at_home E S.home) (TFun A B) (subst (λ X. is_small X ≡ true) (sym (rule-Rec Coloured E S A B e T h).3) s)

-- what is there, and passes
there : {A : Type 0} (f : A → Bool) (o : Option A) → option_map_or f o false ≡ true → (x : A) × (f x ≡ true)
there f None h = absurd (true≢false (sym h))
there f (Some x) h = (x, h)

-- a value inside its seals
module _ (mode : Mode) (F : Environment) where
  abbrev Makes : (Home → Typ → Value) → Type 0
  Makes make = (d : Home) (U : Typ) → ValueWithin (make d U)

  sealed_within : (k : ℕ) (c : Home) (T : Typ) (make : Home → Typ → Value) → Makes make → ValueWithin (sealed mode F k c T make)
  sealed_within zero c T make h = h c T
  sealed_within (suc k) c (TAbs n t) make h = by (λ d U. sealed_within k d U make h) (opens mode F c n)
    where
      by : ((d : Home) (U : Typ) → ValueWithin (sealed mode F k d U make)) → (b : Bool) → ValueWithin (at_abstract mode F b c n t (λ d U. sealed mode F k d U make))
      by f true = f c _
      by f false = f _ _
  sealed_within (suc k) c TInt make h = h c TInt
  sealed_within (suc k) c TBool make h = h c TBool
  sealed_within (suc k) c TStr make h = h c TStr
  sealed_within (suc k) c TUnit make h = h c TUnit
  sealed_within (suc k) c TExn make h = h c TExn
  sealed_within (suc k) c (TTuple Ts) make h = h c (TTuple Ts)
  sealed_within (suc k) c (TList T) make h = h c (TList T)
  sealed_within (suc k) c (TOpt T) make h = h c (TOpt T)
  sealed_within (suc k) c (TFun T U) make h = h c (TFun T U)
  sealed_within (suc k) c (TMine t) make h = h c (TMine t)

  count_rebuilt : (c : Home) (Ts : Typs) (vs : PValues) → width (all_rebuilt mode F c Ts vs) ≡ value_count vs
  count_rebuilt c no_types no_pvalues = refl
  count_rebuilt c (typ T Ts) no_pvalues = refl
  count_rebuilt c no_types (pvalue v vs) = ap (λ n. suc n) (count_rebuilt c no_types vs)
  count_rebuilt c (typ T Ts) (pvalue v vs) = ap (λ n. suc n) (count_rebuilt c Ts vs)

  terms_rebuilt : (c : Home) (es : Exprs) → term_count (rebuilt_terms mode F c es) ≡ term_count es
  terms_rebuilt c no_exprs = refl
  terms_rebuilt c (expr e es) = ap (λ n. suc n) (terms_rebuilt c es)

  arms_rebuilt : (c : Home) (arms : Arms) → arm_count (rebuilt_arms mode F c arms) ≡ arm_count arms
  arms_rebuilt c no_arms = refl
  arms_rebuilt c (arm p e rest) = ap (λ n. suc n) (arms_rebuilt c rest)

  module _ (E : Environment) where
    abbrev r : Home → Expr → Expr
    r c e = rebuilt_term mode F c e

    -- the parts of the test on arms
    arms_fit : (a b x y : Bool) → (a && b && x && y) ≡ true → (a ≡ true) × (b ≡ true) × ((x && y) ≡ true)
    arms_fit a b x y h =
        let p = both_true (a && b && x) y h in
        let q = both_true (a && b) x p.0 in
        let s = both_true a b q.0 in
        (s.0, s.1, and_true {a = x} {b = y} q.1 p.1)

    mutual
      pub term_within : (b : Bool) (e : Expr) (S : Scope) (T : Typ) (c : Home) → HasType Coloured E S e T → fits_term b e ≡ true → has_small_types (term_parts e) ≡ true → Within true (r c e)
      term_within b (Int n) S T c h w s = w
      term_within b (Boolean x) S T c h w s = tt
      term_within b (Str x) S T c h w s = w
      term_within b Unit' S T c h w s = tt
      term_within b (Exn k) S T c h w s = w
      term_within b (ExnOf k e) S T c h w s = let p = both_true _ _ w in (p.0, term_within b e S TStr c (rule-ExnOf Coloured E S k e T h).1 p.1 s)
      term_within b (Tuple es) S T c h w s =
          let p = both_true _ _ w in
          let t = rule-Tuple Coloured E S es T h in
          (ap is_width (terms_rebuilt c es) ∙ p.0, terms_within b es S t.0 c t.1 p.1 s)
      term_within b (Nil A) S T c h w s = (w, (one_small A [] s).0)
      term_within b (Empty A) S T c h w s = (w, (one_small A [] s).0)
      term_within b (Present e) S T c h w s = let t = rule-Present Coloured E S e T h in term_within b e S t.0 c t.1 w s
      term_within b (Cons x y) S T c h w s =
          let p = both_true _ _ w in
          let t = rule-Cons Coloured E S x y T h in
          let m = small_parts (term_parts x) (term_parts y) s in
          (term_within b x S t.1.0 c t.1.1 p.0 m.0, term_within b y S T c t.0 p.1 m.1)
      term_within b (Var i) S T c h w s = w
      term_within b (Own f) S T c h w s = w
      term_within b (Ref j x) S T c h w s = w
      term_within b (Lam A e) S T c h w s =
          let p = both_true _ _ w in
          let t = rule-Lam Coloured E S A e T h in
          let m = one_small A (term_parts e) s in
          ((p.0, m.0), term_within b e (bind (view Coloured E S.home A) S) t.1.0 c t.1.1 p.1 m.1)
      term_within b (Rec A B e) S T c h w s =
          let t = rule-Rec Coloured E S A B e T h in
          let m = one_small A (OfType B ∷ term_parts e) s in
          let n = one_small B (term_parts e) m.1 in
          ((left _ _ _ w, m.0), (middle _ _ _ w, n.0), rec_small E S A B e T h, term_within b e _ _ c t.2 (both_true _ _ w).1 n.1)
      term_within b (App x y) S T c h w s =
          let p = both_true _ _ w in
          let t = rule-App Coloured E S x y T h in
          let m = small_parts (term_parts x) (term_parts y) s in
          (term_within b x S (TFun t.0 T) c t.1 p.0 m.0, term_within b y S t.0 c t.2 p.1 m.1)
      term_within b (Let A x y) S T c h w s =
          let t = rule-Let Coloured E S A x y T h in
          let l = one_small A (term_parts x ++ term_parts y) s in
          let m = small_parts (term_parts x) (term_parts y) l.1 in
          ((left _ _ _ w, l.0), term_within b x S _ c t.1 (middle _ _ _ w) m.0, term_within b y _ T c t.2 (both_true _ _ w).1 m.1)
      term_within b (If x y z) S T c h w s =
          let t = rule-If Coloured E S x y z T h in
          let l = small_parts (term_parts x ++ term_parts y) (term_parts z) s in
          let m = small_parts (term_parts x) (term_parts y) l.0 in
          (term_within b x S TBool c t.0 (left _ _ _ w) m.0, term_within b y S T c t.1 (middle _ _ _ w) m.1, term_within b z S T c t.2 (both_true _ _ w).1 l.1)
      term_within b (Seq es) S T c h w s =
          let p = both_true _ _ w in
          let t = rule-Seq Coloured E S es T h in
          (ap (λ n. nat_le 2 n && is_four n) (terms_rebuilt c es) ∙ p.0, terms_within b es S t.0 c t.1 p.1 s)
      term_within b (Match e arms) S T c h w s =
          let p = arms_fit _ _ _ _ w in
          let t = rule-Match Coloured E S e arms T h in
          let m = small_parts (term_parts e) (arm_parts arms) s in
          (term_within b e S t.0 c t.1 p.0 m.0, arms_within b arms S t.0 t.2.0 c t.2.1 p.1 m.1, ap (λ n. nat_le 1 n && nat_le n 1024) (arms_rebuilt c arms) ∙ p.2)
      term_within b (Try e arms) S T c h w s =
          let p = arms_fit _ _ _ _ w in
          let t = rule-Try Coloured E S e arms T h in
          let m = small_parts (term_parts e) (arm_parts arms) s in
          (term_within b e S T c t.0 p.0 m.0, arms_within b arms S TExn t.1.0 c t.1.1 p.1 m.1, ap (λ n. nat_le 1 n && nat_le n 1024) (arms_rebuilt c arms) ∙ p.2)
      term_within b (Raise A e) S T c h w s =
          let p = both_true _ _ w in
          let m = one_small A (term_parts e) s in
          ((p.0, m.0), term_within b e S TExn c (rule-Raise Coloured E S A e T h).0 p.1 m.1)
      term_within b (Prim k es) S T c h w s =
          let p = both_true _ _ w in
          let t = rule-Prim Coloured E S k es T h in
          (ap (takes primitives k) (terms_rebuilt c es) ∙ p.0, terms_within b es S t.0 c t.1 p.1 s)
      term_within b (Marshal A x y) S T c h w s =
          let t = rule-Marshal Coloured E S A x y T h in
          let l = one_small A (term_parts x ++ term_parts y) s in
          let m = small_parts (term_parts x) (term_parts y) l.1 in
          ((left _ _ _ w, l.0), term_within b x S TStr c t.0 (middle _ _ _ w) m.0, term_within b y S _ c t.2 (both_true _ _ w).1 m.1)
      term_within b (Unmarshal A e) S T c h w s =
          let p = both_true _ _ w in
          let m = one_small A (term_parts e) s in
          ((p.0, m.0), term_within b e S TStr c (rule-Unmarshal Coloured E S A e T h).0 p.1 m.1)
      term_within b (Val A v) S T c h w s =
          let m = one_small A (Captured ∷ value_parts v) s in
          ((middle _ _ _ w, m.0), value_within v A c A (rule-Val Coloured E S A v T h).0 (both_true _ _ w).1 m.1)
      term_within b (Evaluated A v) S T c h w s = absurd (true≢false (sym w))
      term_within b (Bracket d A e) S T c h w s = absurd (true≢false (sym w))

      terms_within : (b : Bool) (es : Exprs) (S : Scope) (Ts : Typs) (c : Home) → types_of Coloured false E S es ≡ Some Ts → fit_terms b es ≡ true → has_small_types (all_term_parts es) ≡ true → AllWithin true (rebuilt_terms mode F c es)
      terms_within b no_exprs S Ts c h w s = tt
      terms_within b (expr e es) S Ts c h w s =
          let p = both_true _ _ w in
          let t = rule-expr Coloured E S e es Ts h in
          let m = small_parts (term_parts e) (all_term_parts es) s in
          (term_within b e S t.0 c t.2 p.0 m.0, terms_within b es S t.1 c t.3 p.1 m.1)

      arms_within : (b : Bool) (arms : Arms) (S : Scope) (A : Typ) (Ts : Typs) (c : Home) → arm_types Coloured false E S A arms ≡ Some Ts → fit_arms b arms ≡ true → has_small_types (arm_parts arms) ≡ true → ArmsWithin (rebuilt_arms mode F c arms)
      arms_within b no_arms S A Ts c h w s = tt
      arms_within b (arm p e rest) S A Ts c h w s =
          let q = also_some _ _ Ts h in
          let v = then_some _ (variables Coloured false E S.home p A) q.0 q.2 in
          let l = small_parts (map OfType (pattern_types p) ++ term_parts e) (arm_parts rest) s in
          let m = small_parts (map OfType (pattern_types p)) (term_parts e) l.0 in
          ((left _ _ _ w, small_types (pattern_types p) m.0), term_within b e (bind_all v.0 S) q.0 c v.2 (middle _ _ _ w) m.1, arms_within b rest S A q.1 c q.3 (both_true _ _ w).1 l.1)

      pub value_within : (v : PValue) (T : Typ) (c : Home) (U : Typ) → holds Coloured false E v T ≡ true → fits_value v ≡ true → has_small_types (value_parts v) ≡ true → ValueWithin (rebuilt mode F c U v)
      value_within (KInt n) T c U h w s = sealed_within _ c U (λ d X. VInt n) (λ d X. w)
      value_within (KBool x) T c U h w s = sealed_within _ c U (λ d X. VBool x) (λ d X. tt)
      value_within (KStr x) T c U h w s = sealed_within _ c U (λ d X. VStr x) (λ d X. w)
      value_within KUnit T c U h w s = sealed_within _ c U (λ d X. VUnit) (λ d X. tt)
      value_within (KExn k x) T c U h w s = sealed_within _ c U (λ d X. VExn k x) (λ d X. both_true _ _ w)
      value_within (KTuple vs) T c U h w s =
          let p = both_true _ _ w in
          let t = there (λ Ts. all_hold Coloured false E vs Ts) (tuple_parts (head E T)) h in
          sealed_within _ c U (λ d X. VTuple (all_rebuilt mode F d (parts_of X) vs)) (λ d X. (ap is_width (count_rebuilt d (parts_of X) vs) ∙ p.0, values_within vs t.0 d (parts_of X) t.1 p.1 s))
      value_within (KList vs) T c U h w s =
          let t = there (λ A. each_holds Coloured false E vs A) (list_item (head E T)) h in
          sealed_within _ c U (λ d X. list_rebuilt mode F d X vs) (λ d X. list_within vs t.0 d X t.1 (both_true _ _ w).1 s)
      value_within KAbsent T c U h w s = sealed_within _ c U (λ d X. VAbsent X) (λ d X. tt)
      value_within (KPresent v) T c U h w s =
          let t = there (λ A. holds Coloured false E v A) (option_item (head E T)) h in
          sealed_within _ c U (λ d X. VPresent (rebuilt mode F d (item_of X) v)) (λ d X. value_within v t.0 d (item_of X) t.1 w s)
      value_within (KFun b (Lam A e)) T c U h w s =
          let t = agree_some (type_of Coloured false E (all_of E b) (Lam A e)) _ (both_true (is_function (head E T) && is_function_home E b) _ h).1 in
          sealed_within _ c U (λ d X. VProxy b (argument_of X) (result_of X) (VLam A (rebuilt_term mode F b e))) (λ d X. term_within true (Lam A e) (all_of E b) t.0 b t.1 (both_true _ _ w).1 s)
      value_within (KFun b (Rec A B e)) T c U h w s =
          let t = agree_some (type_of Coloured false E (all_of E b) (Rec A B e)) _ (both_true (is_function (head E T) && is_function_home E b) _ h).1 in
          sealed_within _ c U (λ d X. VProxy b (argument_of X) (result_of X) (VRec A B (rebuilt_term mode F b e))) (λ d X. term_within true (Rec A B e) (all_of E b) t.0 b t.1 (both_true _ _ w).1 s)
      value_within (KFun b _) T c U h w s = absurd (true≢false (sym (middle _ _ _ w)))

      values_within : (vs : PValues) (Ts : Typs) (c : Home) (Us : Typs) → all_hold Coloured false E vs Ts ≡ true → fit_values vs ≡ true → has_small_types (all_value_parts vs) ≡ true → ValuesWithin (all_rebuilt mode F c Us vs)
      values_within no_pvalues Ts c no_types h w s = tt
      values_within no_pvalues Ts c (typ U Us) h w s = tt
      values_within (pvalue v vs) (typ T Ts) c no_types h w s =
          let p = both_true (holds Coloured false E v T) (all_hold Coloured false E vs Ts) h in
          let q = both_true (fits_value v) (fit_values vs) w in
          let m = small_parts (value_parts v) (all_value_parts vs) s in
          (value_within v T c TUnit p.0 q.0 m.0, values_within vs Ts c no_types p.1 q.1 m.1)
      values_within (pvalue v vs) (typ T Ts) c (typ U Us) h w s =
          let p = both_true (holds Coloured false E v T) (all_hold Coloured false E vs Ts) h in
          let q = both_true (fits_value v) (fit_values vs) w in
          let m = small_parts (value_parts v) (all_value_parts vs) s in
          (value_within v T c U p.0 q.0 m.0, values_within vs Ts c Us p.1 q.1 m.1)
      values_within (pvalue v vs) no_types c Us h w s = absurd (true≢false (sym h))

      list_within : (vs : PValues) (A : Typ) (c : Home) (U : Typ) → each_holds Coloured false E vs A ≡ true → fit_values vs ≡ true → has_small_types (all_value_parts vs) ≡ true → ValueWithin (list_rebuilt mode F c U vs)
      list_within no_pvalues A c U h w s = tt
      list_within (pvalue v vs) A c U h w s =
          let p = both_true (holds Coloured false E v A) (each_holds Coloured false E vs A) h in
          let q = both_true (fits_value v) (fit_values vs) w in
          let m = small_parts (value_parts v) (all_value_parts vs) s in
          (value_within v A c (item_of U) p.0 q.0 m.0, list_within vs A c U p.1 q.1 m.1)

  -- a term of the source has no packed value to rebuild
  mutual
    pub source_rebuilt : (e : Expr) (c : Home) → is_source e ≡ true → rebuilt_term mode F c e ≡ e
    source_rebuilt (Int n) c h = refl
    source_rebuilt (Boolean x) c h = refl
    source_rebuilt (Str x) c h = refl
    source_rebuilt Unit' c h = refl
    source_rebuilt (Exn k) c h = refl
    source_rebuilt (ExnOf k e) c h = ap (ExnOf k) (source_rebuilt e c h)
    source_rebuilt (Tuple es) c h = ap Tuple (sources_rebuilt es c h)
    source_rebuilt (Nil T) c h = refl
    source_rebuilt (Empty T) c h = refl
    source_rebuilt (Present e) c h = ap Present (source_rebuilt e c h)
    source_rebuilt (Cons x y) c h = let p = both_true (is_source x) (is_source y) h in ap₂ Cons (source_rebuilt x c p.0) (source_rebuilt y c p.1)
    source_rebuilt (Var i) c h = refl
    source_rebuilt (Own f) c h = refl
    source_rebuilt (Ref j x) c h = refl
    source_rebuilt (Lam T e) c h = ap (Lam T) (source_rebuilt e c h)
    source_rebuilt (Rec T U e) c h = ap (Rec T U) (source_rebuilt e c h)
    source_rebuilt (App x y) c h = let p = both_true (is_source x) (is_source y) h in ap₂ App (source_rebuilt x c p.0) (source_rebuilt y c p.1)
    source_rebuilt (Let T x y) c h = let p = both_true (is_source x) (is_source y) h in ap₂ (Let T) (source_rebuilt x c p.0) (source_rebuilt y c p.1)
    source_rebuilt (If x y z) c h =
        let p = both_true (is_source x) (is_source y && is_source z) h in
        let q = both_true (is_source y) (is_source z) p.1 in
        ap (λ a. If a (rebuilt_term mode F c y) (rebuilt_term mode F c z)) (source_rebuilt x c p.0) ∙ ap₂ (If x) (source_rebuilt y c q.0) (source_rebuilt z c q.1)
    source_rebuilt (Seq es) c h = ap Seq (sources_rebuilt es c h)
    source_rebuilt (Match e arms) c h = let p = both_true (is_source e) (arms_are_source arms) h in ap₂ Match (source_rebuilt e c p.0) (source_arms_rebuilt arms c p.1)
    source_rebuilt (Try e arms) c h = let p = both_true (is_source e) (arms_are_source arms) h in ap₂ Try (source_rebuilt e c p.0) (source_arms_rebuilt arms c p.1)
    source_rebuilt (Raise T e) c h = ap (Raise T) (source_rebuilt e c h)
    source_rebuilt (Prim k es) c h = ap (Prim k) (sources_rebuilt es c h)
    source_rebuilt (Marshal T x y) c h = let p = both_true (is_source x) (is_source y) h in ap₂ (Marshal T) (source_rebuilt x c p.0) (source_rebuilt y c p.1)
    source_rebuilt (Unmarshal T e) c h = ap (Unmarshal T) (source_rebuilt e c h)
    source_rebuilt (Val T v) c h = absurd (true≢false (sym h))
    source_rebuilt (Evaluated T v) c h = absurd (true≢false (sym h))
    source_rebuilt (Bracket d T e) c h = absurd (true≢false (sym h))

    sources_rebuilt : (es : Exprs) (c : Home) → are_source es ≡ true → rebuilt_terms mode F c es ≡ es
    sources_rebuilt no_exprs c h = refl
    sources_rebuilt (expr e es) c h = let p = both_true (is_source e) (are_source es) h in ap₂ expr (source_rebuilt e c p.0) (sources_rebuilt es c p.1)

    source_arms_rebuilt : (arms : Arms) (c : Home) → arms_are_source arms ≡ true → rebuilt_arms mode F c arms ≡ arms
    source_arms_rebuilt no_arms c h = refl
    source_arms_rebuilt (arm p e rest) c h = let q = both_true (is_source e) (arms_are_source rest) h in ap₂ (arm p) (source_rebuilt e c q.0) (source_arms_rebuilt rest c q.1)
