-- A packed value of a type that a home sees as a small one, rebuilt in the home, is of the type by the rules.
use Rattle.std.proofs.Common.{◌≡◌, refl, sym, ap, ap₂, ◌∙◌, subst, ℕ, zero, suc, ◌<◌, Bool, true, false, length, Option, Some}
use Rattle.std.specs.Prelude.{◌&&◌, is_some, option_map, option_and_then}
use Rattle.std.specs.List.{list_all}
use Rattle.std.specs.Option.{option_map_or}
use mathlib.Core.Bool.{true≢false}
use Rattle.ac_types.specs.Partial.{given, agree, also, both_same}
use Rattle.ac_types.proofs.FirstLaws.{given_some}
use Rattle.ac_types.proofs.Same.{both_true, same_eq, same_refl}
use Rattle.ac_types.specs.Types.{Typ, TInt, TBool, TStr, TUnit, TExn, TTuple, TList, TOpt, TFun, TAbs, TMine, Typs, no_types, typ, mentions, mentions_of_all, is_small}
use Rattle.ac_terms.specs.Terms.{Home, Expr, Int, Boolean, Str, Unit', Exn, ExnOf, Tuple, Nil, Empty, Present, Cons, Var, Own, Ref, Lam, Rec, App, Let, If, Seq, Match, Try, Raise, Prim, Marshal, Unmarshal, Val, Evaluated, Bracket, Exprs, no_exprs, expr, Arms, no_arms, arm, PValue, KInt, KBool, KStr, KUnit, KExn, KTuple, KList, KAbsent, KPresent, KFun, PValues, no_pvalues, pvalue, Value, VInt, VBool, VStr, VUnit, VExn, VTuple, VAbsent, VPresent, VLam, VRec, VProxy}
use Rattle.ac_terms.specs.Defs.{Environment, find_name}
use Rattle.ac_terms.specs.Bounds.{fits_term, fit_terms, fit_arms, fits_value, fit_values}
use Rattle.ac_types.specs.Exceptions.{has_text}
use Rattle.ac_terms.specs.PrimitiveTypes.{is_exception, primitive_type}
use Rattle.ac_terms.proofs.AllLaws.{all_left, all_right}
use Rattle.ac_rules.specs.Views.{Coloured, view, opens, opened, representation, rounds, unsealed, head, is_known, are_known}
use Rattle.ac_rules.specs.Typing.{Scope, bind, bind_all, all_of, type_of, types_of, arm_types, variables, one_of, kept_in, is_home, is_function, is_function_home, holds, all_hold, each_holds, tuple_parts, list_item, option_item, a_list, an_option, last_of}
use Rattle.ac_rules.specs.Coherent.{IsCoherent}
use Rattle.ac_rules.proofs.BareLaws.{known_has}
use Rattle.ac_rules.proofs.GrowthTyping.{More, map_more, then_more, kept_more, given_more, has_more, agree_more, both_more, also_more, applied_more, and_more}
use Rattle.ac_rules.proofs.KnownTypes.{rounds_still, opened_known, head_known}
use Rattle.ac_rules.proofs.Rules.{function_home, kept_some}
use Rattle.ac_meaning.specs.Rebuilding.{parts_of, item_of, argument_of, result_of, home_of_name, at_abstract, sealed, rebuilt, all_rebuilt, list_rebuilt, rebuilt_term, rebuilt_terms, rebuilt_arms}
use Rattle.ac_meaning.proofs.FromTypes.{name_home, name_opens}
use Rattle.ac_meaning.proofs.Homes.{all_seen, seen_tuple, view_open, opened_is, sees_own}
use Rattle.ac_meaning.proofs.KnownNames.{known_types}
use Rattle.ac_meaning.proofs.Sources.{left, middle}
use Rattle.ac_meaning.proofs.SmallTypes.{AllSmall, small_item, small_option, small_tuple}
use Rattle.ac_meaning.proofs.WithinSources.{kept_small}
use Rattle.ac_colours.proofs.SmallViews.{keep, opened_small}
use Rattle.ac_colours.proofs.TypedShapes.{type_in, types_in, seen_in, seen_is, is_seen, agrees, sealed_has, proxy_has}
use Rattle.ac_colours.proofs.Instances.{standing}

module _ (E : Environment) (coherent : IsCoherent E) where
  abbrev sees : Home → Typ → Typ
  sees c T = view Coloured E c T

  abbrev AtHome : Home → Type 0
  AtHome c = is_home E c ≡ true

  -- a value inside its seals
  abbrev MakesTyped : Typ → (Home → Typ → Value) → Type 0
  MakesTyped U make = (d : Home) → AtHome d → is_small (sees d U) ≡ true → type_in E d (make d U) ≡ Some (sees d U)

  still_typed : (k : ℕ) (c : Home) (T : Typ) (make : Home → Typ → Value) → unsealed E T ≡ T → AtHome c → is_small (sees c T) ≡ true → MakesTyped (rounds (suc k) (unsealed E) T) make → type_in E c (make c T) ≡ Some (sees c T)
  still_typed k c T make e o s h =
      let still = rounds_still (suc k) (unsealed E) T e in
      subst (λ X. type_in E c (make c X) ≡ Some (sees c X)) still (h c o (subst (λ X. is_small (sees c X) ≡ true) (sym still) s))

  sealed_typed : (k : ℕ) (c : Home) (T : Typ) (make : Home → Typ → Value) → are_known E T ≡ true → AtHome c → is_small (sees c T) ≡ true → MakesTyped (rounds k (unsealed E) T) make → type_in E c (sealed Coloured E k c T make) ≡ Some (sees c T)
  sealed_typed zero c T make k o s h = h c o s
  sealed_typed (suc j) c (TAbs n t) make k o s h = by (λ d p q. sealed_typed j d (opened E n t) make (opened_known E coherent n t known') p q h) (opens Coloured E c n) refl
    where
      known' : is_known E (n, t) ≡ true
      known' = (both_true (is_known E (n, t)) true k).0

      x : (i : ℕ) × (R : Typ) × (find_name E n ≡ Some i) × (i < length E) × (representation E n t ≡ Some R)
      x = known_has E coherent n t known'

      there : (d : Home) → opens Coloured E d n ≡ true → sees d (TAbs n t) ≡ sees d (opened E n t)
      there d p = view_open E coherent Coloured d n t x.1 x.4 k p ∙ ap (sees d) (sym (opened_is E coherent n t x.1 x.4))

      -- in a home that opens it, what is seen is what it stands for
      inside_small : (d : Home) → opens Coloured E d n ≡ true → is_small (sees d (opened E n t)) ≡ true
      inside_small d p = subst (λ X. is_small X ≡ true) (sym (sees_own E d n t p) ∙ there d p) (opened_small E coherent n t k)

      by : ((d : Home) → AtHome d → is_small (sees d (opened E n t)) ≡ true → type_in E d (sealed Coloured E j d (opened E n t) make) ≡ Some (sees d (opened E n t))) → (b : Bool) → opens Coloured E c n ≡ b → type_in E c (at_abstract Coloured E b c n t (λ d U. sealed Coloured E j d U make)) ≡ Some (sees c (TAbs n t))
      by f true p = f c o (inside_small c p) ∙ ap Some (sym (there c p))
      by f false p =
          let d = home_of_name Coloured E n in
          let p' = name_opens E coherent (known_types E coherent) Coloured Coloured n t known' in
          let o' = name_home E coherent (known_types E coherent) Coloured n t known' in
          sealed_has E d c n t (sealed Coloured E j d (opened E n t) make) k p' p (f d o' (inside_small d p') ∙ ap Some (sym (there d p'))) o'
  sealed_typed (suc j) c TInt make k o s h = still_typed j c TInt make refl o s h
  sealed_typed (suc j) c TBool make k o s h = still_typed j c TBool make refl o s h
  sealed_typed (suc j) c TStr make k o s h = still_typed j c TStr make refl o s h
  sealed_typed (suc j) c TUnit make k o s h = still_typed j c TUnit make refl o s h
  sealed_typed (suc j) c TExn make k o s h = still_typed j c TExn make refl o s h
  sealed_typed (suc j) c (TTuple Ts) make k o s h = still_typed j c (TTuple Ts) make refl o s h
  sealed_typed (suc j) c (TList T) make k o s h = still_typed j c (TList T) make refl o s h
  sealed_typed (suc j) c (TOpt T) make k o s h = still_typed j c (TOpt T) make refl o s h
  sealed_typed (suc j) c (TFun T U) make k o s h = still_typed j c (TFun T U) make refl o s h
  sealed_typed (suc j) c (TMine t) make k o s h = still_typed j c (TMine t) make refl o s h

  abbrev r : Home → Expr → Expr
  r c e = rebuilt_term Coloured E c e

  abbrev of : Scope → Expr → Option Typ
  of S e = type_of Coloured false E S e

  -- a value of a constant's type
  a_constant : (c : Home) (T C : Typ) (v : Value) → head E T ≡ C → sees c C ≡ C → type_in E c v ≡ Some C → type_in E c v ≡ Some (sees c (head E T))
  a_constant c T C v e s h = h ∙ ap Some (sym (ap (sees c) e ∙ s))

  mutual
    -- a term whose packed values are rebuilt
    rebuilt_more : (e : Expr) (S : Scope) → fits_term true e ≡ true → AtHome S.home → More (of S e) (of S (r S.home e))
    rebuilt_more (Int k) S w o x h = h
    rebuilt_more (Boolean b) S w o x h = h
    rebuilt_more (Str s) S w o x h = h
    rebuilt_more Unit' S w o x h = h
    rebuilt_more (Exn k) S w o x h = h
    rebuilt_more (ExnOf k e) S w o x h =
        given_more _ _ (Some TExn) (Some TExn) (and_more (has_text k) _ (has_text k) _ (λ q. q) (λ p. has_more _ _ TStr (rebuilt_more e S (both_true _ _ w).1 o))) (λ y q. q) x h
    rebuilt_more (Tuple es) S w o x h = kept_more Coloured _ _ (map_more TTuple _ _ (all_rebuilt_more es S (both_true _ _ w).1 o)) x h
    rebuilt_more (Nil T) S w o x h = h
    rebuilt_more (Empty T) S w o x h = h
    rebuilt_more (Present e) S w o x h = kept_more Coloured _ _ (map_more TOpt _ _ (rebuilt_more e S w o)) x h
    rebuilt_more (Cons a b) S w o x h =
        let p = both_true (fits_term true a) (fits_term true b) w in
        both_more _ _ _ _ (map_more TList _ _ (rebuilt_more a S p.0 o)) (rebuilt_more b S p.1 o) x h
    rebuilt_more (Var i) S w o x h = h
    rebuilt_more (Own f) S w o x h = h
    rebuilt_more (Ref j y) S w o x h = h
    rebuilt_more (Lam T e) S w o x h =
        then_more _ _ (seen_in E S.home T) (seen_in E S.home T) (λ y q. q) (λ A q. kept_more Coloured _ _ (map_more (TFun A) _ _ (rebuilt_more e (bind A S) (both_true _ _ w).1 o))) x h
    rebuilt_more (Rec T U e) S w o x h =
        then_more _ _ (seen_in E S.home T) (seen_in E S.home T) (λ y q. q)
        (λ A q. then_more _ _ (seen_in E S.home U) (seen_in E S.home U) (λ y k. k)
        (λ B k. kept_more Coloured _ _ (given_more _ _ (Some (TFun A B)) (Some (TFun A B)) (has_more _ _ B (rebuilt_more e (bind A (bind (TFun A B) S)) (both_true _ _ w).1 o)) (λ y i. i)))) x h
    rebuilt_more (App f a) S w o x h =
        let p = both_true (fits_term true f) (fits_term true a) w in
        applied_more _ _ _ _ (rebuilt_more f S p.0 o) (rebuilt_more a S p.1 o) x h
    rebuilt_more (Let T e b) S w o x h =
        then_more _ _ (seen_in E S.home T) (seen_in E S.home T) (λ y q. q)
        (λ A q. given_more _ _ _ _ (has_more _ _ A (rebuilt_more e S (middle _ _ _ w) o)) (rebuilt_more b (bind A S) (both_true _ _ w).1 o)) x h
    rebuilt_more (If c a b) S w o x h =
        given_more _ _ _ _ (has_more _ _ TBool (rebuilt_more c S (left _ _ _ w) o)) (both_more _ _ _ _ (rebuilt_more a S (middle _ _ _ w) o) (rebuilt_more b S (both_true _ _ w).1 o)) x h
    rebuilt_more (Seq es) S w o x h = then_more last_of last_of _ _ (all_rebuilt_more es S (both_true _ _ w).1 o) (λ Ts q y k. k) x h
    rebuilt_more (Match e arms) S w o x h =
        let p = (both_true _ _ w).0 in
        then_more _ _ _ _ (rebuilt_more e S (left _ _ _ p) o) (λ T q. then_more one_of one_of _ _ (arms_rebuilt_more arms T S (middle _ _ _ p) o) (λ Ts k y i. i)) x h
    rebuilt_more (Try e arms) S w o x h =
        let p = (both_true _ _ w).0 in
        both_more _ _ _ _ (rebuilt_more e S (left _ _ _ p) o) (then_more one_of one_of _ _ (arms_rebuilt_more arms TExn S (middle _ _ _ p) o) (λ Ts q y k. k)) x h
    rebuilt_more (Raise T e) S w o x h = given_more _ _ _ _ (has_more _ _ TExn (rebuilt_more e S (both_true _ _ w).1 o)) (λ y q. q) x h
    rebuilt_more (Prim k es) S w o x h = then_more (primitive_type k) (primitive_type k) _ _ (all_rebuilt_more es S (both_true _ _ w).1 o) (λ Ts q y i. i) x h
    rebuilt_more (Marshal T m e) S w o x h =
        given_more _ _ (Some TStr) (Some TStr) (and_more _ _ _ _ (has_more _ _ TStr (rebuilt_more m S (middle _ _ _ w) o)) (λ p. agree_more _ _ _ _ (rebuilt_more e S (both_true _ _ w).1 o) (λ y q. q))) (λ y q. q) x h
    rebuilt_more (Unmarshal T e) S w o x h = given_more _ _ _ _ (has_more _ _ TStr (rebuilt_more e S (both_true _ _ w).1 o)) (λ y q. q) x h
    rebuilt_more (Val T v) S w o x h =
        let p = given_some (holds Coloured false E v T) (kept_in Coloured (seen_in E S.home T)) h in
        let s = kept_small (seen_in E S.home T) x p.1 in
        let q = seen_is E S.home T x (kept_some Coloured (seen_in E S.home T) x p.1) in
        standing E S.home S T x (rebuilt Coloured E S.home T v) refl (kept_some Coloured (seen_in E S.home T) x p.1)
        (rebuilt_typed v S.home T q.0 o (both_true _ _ w).1 p.0 (subst (λ X. is_small X ≡ true) (sym q.1) s) ∙ ap Some q.1)
    rebuilt_more (Evaluated T v) S w o x h = h
    rebuilt_more (Bracket c T e) S w o x h = h

    all_rebuilt_more : (es : Exprs) (S : Scope) → fit_terms true es ≡ true → AtHome S.home → More (types_of Coloured false E S es) (types_of Coloured false E S (rebuilt_terms Coloured E S.home es))
    all_rebuilt_more no_exprs S w o x h = h
    all_rebuilt_more (expr e es) S w o x h =
        let p = both_true (fits_term true e) (fit_terms true es) w in
        also_more _ _ _ _ (rebuilt_more e S p.0 o) (all_rebuilt_more es S p.1 o) x h

    arms_rebuilt_more : (arms : Arms) (A : Typ) (S : Scope) → fit_arms true arms ≡ true → AtHome S.home → More (arm_types Coloured false E S A arms) (arm_types Coloured false E S A (rebuilt_arms Coloured E S.home arms))
    arms_rebuilt_more no_arms A S w o x h = h
    arms_rebuilt_more (arm p e rest) A S w o x h =
        also_more _ _ _ _
        (then_more _ _ (variables Coloured false E S.home p A) (variables Coloured false E S.home p A) (λ y q. q) (λ Us q. rebuilt_more e (bind_all Us S) (middle _ _ _ w) o))
        (arms_rebuilt_more rest A S (both_true _ _ w).1 o) x h

    -- a packed value
    pub rebuilt_typed : (v : PValue) (c : Home) (T : Typ) → are_known E T ≡ true → AtHome c → fits_value v ≡ true → holds Coloured false E v T ≡ true → is_small (sees c T) ≡ true → type_in E c (rebuilt Coloured E c T v) ≡ Some (sees c T)
    rebuilt_typed (KInt n) c T k o w h s = sealed_typed (length E) c T (λ d U. VInt n) k o s (λ d p q. a_constant d T TInt (VInt n) (same_eq (head E T) TInt h) refl refl)
    rebuilt_typed (KBool b) c T k o w h s = sealed_typed (length E) c T (λ d U. VBool b) k o s (λ d p q. a_constant d T TBool (VBool b) (same_eq (head E T) TBool h) refl refl)
    rebuilt_typed (KStr x) c T k o w h s = sealed_typed (length E) c T (λ d U. VStr x) k o s (λ d p q. a_constant d T TStr (VStr x) (same_eq (head E T) TStr h) refl refl)
    rebuilt_typed KUnit c T k o w h s = sealed_typed (length E) c T (λ d U. VUnit) k o s (λ d p q. a_constant d T TUnit VUnit (same_eq (head E T) TUnit h) refl refl)
    rebuilt_typed (KExn j x) c T k o w h s =
        let p = both_true _ (is_exception j x) h in
        sealed_typed (length E) c T (λ d U. VExn j x) k o s (λ d i q. a_constant d T TExn (VExn j x) (same_eq (head E T) TExn p.0) refl (ap (λ b. given b (Some TExn)) p.1))
    rebuilt_typed (KTuple vs) c T k o w h s =
        sealed_typed (length E) c T (λ d U. VTuple (all_rebuilt Coloured E d (parts_of U) vs)) k o s
        (λ d p q. by d (λ Ts l i m. all_rebuilt_typed vs d Ts l p (both_true _ _ w).1 i m) (head E T) (head_known E coherent T k) h q)
      where
        by : (d : Home) → ((Ts : Typs) → list_all (is_known E) (mentions_of_all Ts) ≡ true → all_hold Coloured false E vs Ts ≡ true → AllSmall (all_seen E Coloured d Ts) → types_in E d (all_rebuilt Coloured E d Ts vs) ≡ Some (all_seen E Coloured d Ts)) → (X : Typ) → are_known E X ≡ true →
            option_map_or (λ Ts. all_hold Coloured false E vs Ts) (tuple_parts X) false ≡ true → is_small (sees d X) ≡ true → type_in E d (VTuple (all_rebuilt Coloured E d (parts_of X) vs)) ≡ Some (sees d X)
        by d f (TTuple Ts) l i m =
            let e = seen_tuple E Coloured d Ts in
            let n : is_small (TTuple (all_seen E Coloured d Ts)) ≡ true = subst (λ X. is_small X ≡ true) e m in
            ap (λ Us. kept_in Coloured (option_map TTuple Us)) (f Ts l i (small_tuple (all_seen E Coloured d Ts) n)) ∙ keep (TTuple (all_seen E Coloured d Ts)) n ∙ ap Some (sym e)
        by d f _ l i m = absurd (true≢false (sym i))
    rebuilt_typed (KList vs) c T k o w h s =
        sealed_typed (length E) c T (λ d U. list_rebuilt Coloured E d U vs) k o s (λ d p q. by d (λ U l i m. list_rebuilt_typed vs d U l p (both_true _ _ w).1 i m) (head E T) (head_known E coherent T k) h q)
      where
        by : (d : Home) → ((U : Typ) → are_known E U ≡ true → each_holds Coloured false E vs U ≡ true → is_small (TList (sees d U)) ≡ true → type_in E d (list_rebuilt Coloured E d (TList U) vs) ≡ Some (TList (sees d U))) → (X : Typ) → are_known E X ≡ true →
            option_map_or (λ U. each_holds Coloured false E vs U) (list_item X) false ≡ true → is_small (sees d X) ≡ true → type_in E d (list_rebuilt Coloured E d X vs) ≡ Some (sees d X)
        by d f (TList U) l i m = f U l i m
        by d f _ l i m = absurd (true≢false (sym i))
    rebuilt_typed KAbsent c T k o w h s = sealed_typed (length E) c T (λ d U. VAbsent U) k o s (λ d p q. by d (head E T) (head_known E coherent T k) h q)
      where
        by : (d : Home) (X : Typ) → are_known E X ≡ true → is_some (option_item X) ≡ true → is_small (sees d X) ≡ true → type_in E d (VAbsent X) ≡ Some (sees d X)
        by d (TOpt U) l i m = ap (λ y. kept_in Coloured (option_and_then an_option y)) (is_seen E d (TOpt U) l) ∙ keep (TOpt (sees d U)) m
        by d _ l i m = absurd (true≢false (sym i))
    rebuilt_typed (KPresent v) c T k o w h s =
        sealed_typed (length E) c T (λ d U. VPresent (rebuilt Coloured E d (item_of U) v)) k o s (λ d p q. by d (λ U l i m. rebuilt_typed v d U l p w i m) (head E T) (head_known E coherent T k) h q)
      where
        by : (d : Home) → ((U : Typ) → are_known E U ≡ true → holds Coloured false E v U ≡ true → is_small (sees d U) ≡ true → type_in E d (rebuilt Coloured E d U v) ≡ Some (sees d U)) → (X : Typ) → are_known E X ≡ true →
            option_map_or (λ U. holds Coloured false E v U) (option_item X) false ≡ true → is_small (sees d X) ≡ true → type_in E d (VPresent (rebuilt Coloured E d (item_of X) v)) ≡ Some (sees d X)
        by d f (TOpt U) l i m = ap (λ y. kept_in Coloured (option_map TOpt y)) (f U l i (small_option (sees d U) m)) ∙ keep (TOpt (sees d U)) m
        by d f _ l i m = absurd (true≢false (sym i))
    rebuilt_typed (KFun b (Lam A e)) c T k o w h s =
        let home : AtHome b = function_home E b (both_true _ _ (both_true _ _ h).0).1 in
        sealed_typed (length E) c T (λ d U. VProxy b (argument_of U) (result_of U) (VLam A (r b e))) k o s
        (λ d p q. by d home (rebuilt_more (Lam A e) (all_of E b) (both_true _ _ w).1 home) (head E T) (head_known E coherent T k) h q)
      where
        by : (d : Home) → AtHome b → More (of (all_of E b) (Lam A e)) (type_in E b (VLam A (r b e))) → (X : Typ) → are_known E X ≡ true →
            (is_function X && is_function_home E b && agree (of (all_of E b) (Lam A e)) (seen_in E b X)) ≡ true → is_small (sees d X) ≡ true → type_in E d (VProxy b (argument_of X) (result_of X) (VLam A (r b e))) ≡ Some (sees d X)
        by d t f (TFun P Q) l i m =
            let g = agrees E b (TFun P Q) (of (all_of E b) (Lam A e)) (both_true _ _ i).1 in
            proxy_has E b d P Q (VLam A (r b e)) l (f (sees b (TFun P Q)) g.1) t m
        by d t f _ l i m = absurd (true≢false (sym i))
    rebuilt_typed (KFun b (Rec A B e)) c T k o w h s =
        let home : AtHome b = function_home E b (both_true _ _ (both_true _ _ h).0).1 in
        sealed_typed (length E) c T (λ d U. VProxy b (argument_of U) (result_of U) (VRec A B (r b e))) k o s
        (λ d p q. by d home (rebuilt_more (Rec A B e) (all_of E b) (both_true _ _ w).1 home) (head E T) (head_known E coherent T k) h q)
      where
        by : (d : Home) → AtHome b → More (of (all_of E b) (Rec A B e)) (type_in E b (VRec A B (r b e))) → (X : Typ) → are_known E X ≡ true →
            (is_function X && is_function_home E b && agree (of (all_of E b) (Rec A B e)) (seen_in E b X)) ≡ true → is_small (sees d X) ≡ true → type_in E d (VProxy b (argument_of X) (result_of X) (VRec A B (r b e))) ≡ Some (sees d X)
        by d t f (TFun P Q) l i m =
            let g = agrees E b (TFun P Q) (of (all_of E b) (Rec A B e)) (both_true _ _ i).1 in
            proxy_has E b d P Q (VRec A B (r b e)) l (f (sees b (TFun P Q)) g.1) t m
        by d t f _ l i m = absurd (true≢false (sym i))
    rebuilt_typed (KFun b _) c T k o w h s = absurd (true≢false (sym (middle _ _ _ w)))

    all_rebuilt_typed : (vs : PValues) (c : Home) (Ts : Typs) → list_all (is_known E) (mentions_of_all Ts) ≡ true → AtHome c → fit_values vs ≡ true → all_hold Coloured false E vs Ts ≡ true → AllSmall (all_seen E Coloured c Ts) → types_in E c (all_rebuilt Coloured E c Ts vs) ≡ Some (all_seen E Coloured c Ts)
    all_rebuilt_typed no_pvalues c no_types k o w h s = refl
    all_rebuilt_typed (pvalue v vs) c (typ T Ts) k o w h s =
        let p = both_true (holds Coloured false E v T) (all_hold Coloured false E vs Ts) h in
        let f = both_true (fits_value v) (fit_values vs) w in
        ap₂ also (rebuilt_typed v c T (all_left (is_known E) (mentions T) (mentions_of_all Ts) k) o f.0 p.0 s.0) (all_rebuilt_typed vs c Ts (all_right (is_known E) (mentions T) (mentions_of_all Ts) k) o f.1 p.1 s.1)
    all_rebuilt_typed _ c _ k o w h s = absurd (true≢false (sym h))

    list_rebuilt_typed : (vs : PValues) (c : Home) (U : Typ) → are_known E U ≡ true → AtHome c → fit_values vs ≡ true → each_holds Coloured false E vs U ≡ true → is_small (TList (sees c U)) ≡ true → type_in E c (list_rebuilt Coloured E c (TList U) vs) ≡ Some (TList (sees c U))
    list_rebuilt_typed no_pvalues c U k o w h s = ap (λ y. kept_in Coloured (option_and_then a_list y)) (is_seen E c (TList U) k) ∙ keep (TList (sees c U)) s
    list_rebuilt_typed (pvalue v vs) c U k o w h s =
        let p = both_true (holds Coloured false E v U) (each_holds Coloured false E vs U) h in
        let f = both_true (fits_value v) (fit_values vs) w in
        let one = rebuilt_typed v c U k o f.0 p.0 (small_item (sees c U) s) in
        let rest = list_rebuilt_typed vs c U k o f.1 p.1 s in
        ap₂ both_same (ap (option_map TList) one) rest ∙ ap (λ b. given b (Some (TList (sees c U)))) (same_refl (TList (sees c U)))
