-- Typing as rules: what a term's type says of its parts.
use Rattle.std.proofs.Common.{ℕ, Bool, ◌≡◌, refl, sym, ap, ◌∙◌, true, false, List, ◌++◌, Option, Some, None}
use Rattle.std.specs.Prelude.{ℤ, is_some, is_none, option_map, option_and_then, slice_get}
use mathlib.Core.Bool.{true≢false}
use Rattle.ac_types.specs.Partial.{given, agree, has, both_same, also}
use Rattle.ac_types.proofs.FirstLaws.{none≢some, some_eq, given_some}
use Rattle.ac_types.proofs.Same.{both_true, same_eq}
use Rattle.ac_types.specs.Types.{Bytes, Typ, TInt, TBool, TStr, TUnit, TExn, TTuple, TFun, TOpt, TList, Typs, typ}
use Rattle.ac_terms.specs.Terms.{Home, Main, In, PValue, Expr, Exprs, expr, Arms, Int, Boolean, Str, Unit', Exn, ExnOf, Tuple, Nil, Empty, Var, App, Lam, Let, If, Seq, Match, Try, Raise, Rec, Prim, Unmarshal, Marshal, Val, Present, Cons, Own, Ref}
use Rattle.ac_terms.specs.Defs.{Environment, Module, Def, AModule, AnImport, AMark, module_of, signature, def_of, module_at}
use Rattle.ac_types.specs.Exceptions.{has_text}
use Rattle.ac_terms.specs.PrimitiveTypes.{is_exception, primitive_type}
use Rattle.ac_rules.specs.Views.{Mode, Plain, Coloured, view, are_known}
use Rattle.ac_rules.specs.Typing.{Scope, bind, field_type, ref_type, HasType, type_applied, kept_in, holds, type_seen, types_of, arm_types, one_of, a_list, an_option, variables_joined, is_home, is_function_home, last_of}

pub has_some : (o : Option Typ) (U : Typ) → has o U ≡ true → o ≡ Some U
has_some None U e = absurd (true≢false (sym e))
has_some (Some T) U e = ap Some (same_eq T U e)

pub agree_some : (a b : Option Typ) → agree a b ≡ true → (T : Typ) × (a ≡ Some T) × (b ≡ Some T)
agree_some (Some T) (Some U) e = (T, refl, ap Some (sym (same_eq T U e)))
agree_some None b e = absurd (true≢false (sym e))
agree_some (Some T) None e = absurd (true≢false (sym e))

pub kept_some : (mode : Mode) (o : Option Typ) (T : Typ) → kept_in mode o ≡ Some T → o ≡ Some T
kept_some Plain o T e = e
kept_some Coloured None T e = absurd (none≢some e)
kept_some Coloured (Some U) T e = (given_some _ _ e).1

-- what is there
pub some_there : {A : Type 0} (o : Option A) → is_some o ≡ true → (x : A) × (o ≡ Some x)
some_there None e = absurd (true≢false (sym e))
some_there (Some x) e = (x, refl)

pub none_of : {A : Type 0} (o : Option A) → is_none o ≡ true → o ≡ None
none_of None e = refl
none_of (Some x) e = absurd (true≢false (sym e))

pub map_none : {A B : Type 0} (f : A → B) (o : Option A) → option_map f o ≡ None → o ≡ None
map_none f None e = refl
map_none f (Some a) e = absurd (none≢some (sym e))

pub given_none : {A : Type 0} (b : Bool) (a : A) → given b (Some a) ≡ None → b ≡ false
given_none true a e = absurd (none≢some (sym e))
given_none false a e = refl

pub map_some : {A B : Type 0} (f : A → B) (o : Option A) (y : B) → option_map f o ≡ Some y → (x : A) × (o ≡ Some x) × (f x ≡ y)
map_some f None y e = absurd (none≢some e)
map_some f (Some x) y e = (x, refl, some_eq e)

pub then_some : {A B : Type 0} (f : A → Option B) (o : Option A) (y : B) → option_and_then f o ≡ Some y → (x : A) × (o ≡ Some x) × (f x ≡ Some y)
then_some f None y e = absurd (none≢some e)
then_some f (Some x) y e = (x, refl, e)

pub applied_some : (F a : Option Typ) (B : Typ) → type_applied F a ≡ Some B → (A : Typ) × (F ≡ Some (TFun A B)) × (a ≡ Some A)
applied_some (Some (TFun A C)) a B e = (A, ap (λ X. Some (TFun A X)) (some_eq (given_some _ _ e).1), has_some a A (given_some _ _ e).0)
applied_some F a B e = absurd (none≢some e)

pub both_some : (a b : Option Typ) (T : Typ) → both_same a b ≡ Some T → (a ≡ Some T) × (b ≡ Some T)
both_some None b T e = absurd (none≢some e)
both_some (Some U) b T e =
    let q : U ≡ T = some_eq (given_some _ _ e).1 in
    (ap Some q, has_some b U (given_some _ _ e).0 ∙ ap Some q)

pub also_some : (a : Option Typ) (b : Option Typs) (T : Typs) → also a b ≡ Some T → (A : Typ) × (B : Typs) × (a ≡ Some A) × (b ≡ Some B) × (typ A B ≡ T)
also_some (Some A) (Some B) T e = (A, B, refl, refl, some_eq e)
also_some None b T e = absurd (none≢some e)
also_some (Some A) None T e = absurd (none≢some e)

pub joined_some : (a b : Option (List Typ)) (Us : List Typ) → variables_joined a b ≡ Some Us → (Vs Ws : List Typ) × (a ≡ Some Vs) × (b ≡ Some Ws) × (Us ≡ Ws ++ Vs)
joined_some (Some Vs) (Some Ws) Us e = (Vs, Ws, refl, refl, sym (some_eq e))
joined_some None b Us e = absurd (none≢some e)
joined_some (Some Vs) None Us e = absurd (none≢some e)

-- a home of functions is a home
pub module_is : (d : Def) (m : Module) → module_of d ≡ Some m → d ≡ AModule m
module_is (AModule n) m h = ap AModule (some_eq h)
module_is (AnImport i) m h = absurd (none≢some h)
module_is (AMark s) m h = absurd (none≢some h)

pub module_home : (d : Def) (m : Module) → module_of d ≡ Some m → is_some (signature d) ≡ true
module_home d m e = ap (λ x. is_some (signature x)) (module_is d m e)

pub function_home : (E : Environment) (c : Home) → is_function_home E c ≡ true → is_home E c ≡ true
function_home E Main h = refl
function_home E (In i) h =
    let m = some_there (module_at E i) h in
    let d = then_some module_of (def_of E i) m.0 m.1 in
    ap (λ o. is_some (option_and_then signature o)) d.1 ∙ module_home d.0 m.0 d.2

module _ (mode : Mode) (E : Environment) (S : Scope) where
  -- a term has at most one type
  pub one_type : (e : Expr) (T U : Typ) → HasType mode E S e T → HasType mode E S e U → T ≡ U
  one_type e T U p q = some_eq (sym p ∙ q)

  -- a type is seen where its names are known, and as it is viewed
  seen_some : (c : Home) (A T : Typ) → type_seen mode false E c A ≡ Some T → (are_known E A ≡ true) × (view mode E c A ≡ T)
  seen_some c A T e = let p = given_some _ _ e in (p.0, some_eq p.1)

  -- at the end of a rule: a type that is seen, under a test
  ends : (b : Bool) (A T : Typ) → given b (kept_in mode (type_seen mode false E S.home A)) ≡ Some T → (b ≡ true) × (are_known E A ≡ true) × (view mode E S.home A ≡ T)
  ends b A T h =
      let p = given_some b _ h in
      let q = seen_some S.home A T (kept_some mode _ T p.1) in
      (p.0, q.0, q.1)

  -- the written type is that of the part
  agrees : (o : Option Typ) (c : Home) (A : Typ) → agree o (type_seen mode false E c A) ≡ true → (are_known E A ≡ true) × (o ≡ Some (view mode E c A))
  agrees o c A h =
      let p = agree_some o _ h in
      let q = seen_some c A p.0 p.2 in
      (q.0, p.1 ∙ ap Some (sym q.1))

  -- a type that is seen in what follows
  then_seen : (c : Home) (A T : Typ) (f : Typ → Option Typ) → option_and_then f (type_seen mode false E c A) ≡ Some T → (are_known E A ≡ true) × (f (view mode E c A) ≡ Some T)
  then_seen c A T f h = by (are_known E A) refl h
    where
      by : (b : Bool) → are_known E A ≡ b → option_and_then f (given b (Some (view mode E c A))) ≡ Some T → (are_known E A ≡ true) × (f (view mode E c A) ≡ Some T)
      by true p e = (p, e)
      by false p e = absurd (none≢some e)

  pub rule-Int : (n : ℤ) (T : Typ) → HasType mode E S (Int n) T → TInt ≡ T
  rule-Int n T h = some_eq h

  pub rule-Boolean : (b : Bool) (T : Typ) → HasType mode E S (Boolean b) T → TBool ≡ T
  rule-Boolean b T h = some_eq h

  pub rule-Str : (s : Bytes) (T : Typ) → HasType mode E S (Str s) T → TStr ≡ T
  rule-Str s T h = some_eq h

  pub rule-Unit : (T : Typ) → HasType mode E S Unit' T → TUnit ≡ T
  rule-Unit T h = some_eq h

  pub rule-Exn : (k : ℕ) (T : Typ) → HasType mode E S (Exn k) T → (is_exception k None ≡ true) × (TExn ≡ T)
  rule-Exn k T h = let p = given_some _ _ h in (p.0, some_eq p.1)

  pub rule-ExnOf : (k : ℕ) (e : Expr) (T : Typ) → HasType mode E S (ExnOf k e) T → (has_text k ≡ true) × HasType mode E S e TStr × (TExn ≡ T)
  rule-ExnOf k e T h =
      let p = given_some _ _ h in
      let q = both_true _ _ p.0 in
      (q.0, has_some _ TStr q.1, some_eq p.1)

  pub rule-Tuple : (es : Exprs) (T : Typ) → HasType mode E S (Tuple es) T → (Ts : Typs) × (types_of mode false E S es ≡ Some Ts) × (TTuple Ts ≡ T)
  rule-Tuple es T h = map_some _ _ T (kept_some mode _ T h)

  -- some terms have the types of each
  pub rule-expr : (e : Expr) (es : Exprs) (Us : Typs) → types_of mode false E S (expr e es) ≡ Some Us →
      (T : Typ) × (Ts : Typs) × HasType mode E S e T × (types_of mode false E S es ≡ Some Ts) × (typ T Ts ≡ Us)
  rule-expr e es Us h = also_some _ _ Us h

  pub rule-Nil : (A T : Typ) → HasType mode E S (Nil A) T → (are_known E A ≡ true) × (a_list (view mode E S.home A) ≡ Some T)
  rule-Nil A T h =
      let p = then_some _ _ T (kept_some mode _ T h) in
      let q = seen_some S.home A p.0 p.1 in
      (q.0, ap a_list q.1 ∙ p.2)

  pub rule-Empty : (A T : Typ) → HasType mode E S (Empty A) T → (are_known E A ≡ true) × (an_option (view mode E S.home A) ≡ Some T)
  rule-Empty A T h =
      let p = then_some _ _ T (kept_some mode _ T h) in
      let q = seen_some S.home A p.0 p.1 in
      (q.0, ap an_option q.1 ∙ p.2)

  pub rule-Present : (e : Expr) (T : Typ) → HasType mode E S (Present e) T → (A : Typ) × HasType mode E S e A × (TOpt A ≡ T)
  rule-Present e T h = map_some _ _ T (kept_some mode _ T h)

  pub rule-Cons : (a b : Expr) (T : Typ) → HasType mode E S (Cons a b) T → HasType mode E S b T × ((A : Typ) × HasType mode E S a A × (TList A ≡ T))
  rule-Cons a b T h = let p = both_some _ _ T h in (p.1, map_some _ _ T p.0)

  pub rule-Var : (i : ℕ) (T : Typ) → HasType mode E S (Var i) T → slice_get S.vars i ≡ Some T
  rule-Var i T h = kept_some mode _ T h

  pub rule-Own : (f : ℕ) (T : Typ) → HasType mode E S (Own f) T → (A : Typ) × (field_type E S f ≡ Some A) × (view mode E S.home A ≡ T)
  rule-Own f T h = map_some _ _ T (kept_some mode _ T h)

  pub rule-Ref : (j : ℕ) (x : Bytes) (T : Typ) → HasType mode E S (Ref j x) T → (A : Typ) × (ref_type E S j x ≡ Some A) × (view mode E S.home A ≡ T)
  rule-Ref j x T h = map_some _ _ T (kept_some mode _ T h)

  pub rule-Lam : (A : Typ) (e : Expr) (T : Typ) → HasType mode E S (Lam A e) T →
      (are_known E A ≡ true) × ((B : Typ) × HasType mode E (bind (view mode E S.home A) S) e B × (TFun (view mode E S.home A) B ≡ T))
  rule-Lam A e T h =
      let p = then_seen S.home A T _ h in
      (p.0, map_some _ _ T (kept_some mode _ T p.1))

  pub rule-App : (f a : Expr) (B : Typ) → HasType mode E S (App f a) B → (A : Typ) × HasType mode E S f (TFun A B) × HasType mode E S a A
  rule-App f a B e = applied_some _ _ B e

  pub rule-If : (c a b : Expr) (T : Typ) → HasType mode E S (If c a b) T → HasType mode E S c TBool × HasType mode E S a T × HasType mode E S b T
  rule-If c a b T e =
      let p = given_some _ _ e in
      let q = both_some _ _ T p.1 in
      (has_some _ TBool p.0, q.0, q.1)

  pub rule-Let : (A : Typ) (e b : Expr) (T : Typ) → HasType mode E S (Let A e b) T →
      (are_known E A ≡ true) × HasType mode E S e (view mode E S.home A) × HasType mode E (bind (view mode E S.home A) S) b T
  rule-Let A e b T h =
      let p = then_seen S.home A T _ h in
      let q = given_some _ _ p.1 in
      (p.0, has_some _ _ q.0, q.1)

  pub rule-Rec : (A B : Typ) (e : Expr) (T : Typ) → HasType mode E S (Rec A B e) T →
      (are_known E A ≡ true) × (are_known E B ≡ true) ×
      HasType mode E (bind (view mode E S.home A) (bind (TFun (view mode E S.home A) (view mode E S.home B)) S)) e (view mode E S.home B) ×
      (TFun (view mode E S.home A) (view mode E S.home B) ≡ T)
  rule-Rec A B e T h =
      let p = then_seen S.home A T _ h in
      let q = then_seen S.home B T _ p.1 in
      let r = given_some _ _ (kept_some mode _ T q.1) in
      (p.0, q.0, has_some _ _ r.0, some_eq r.1)

  -- all but the last of a sequence have type unit
  pub rule-Seq : (es : Exprs) (T : Typ) → HasType mode E S (Seq es) T → (Ts : Typs) × (types_of mode false E S es ≡ Some Ts) × (last_of Ts ≡ Some T)
  rule-Seq es T h = then_some _ _ T h

  pub rule-Match : (e : Expr) (cases : Arms) (T : Typ) → HasType mode E S (Match e cases) T →
      (A : Typ) × HasType mode E S e A × ((Ts : Typs) × (arm_types mode false E S A cases ≡ Some Ts) × (one_of Ts ≡ Some T))
  rule-Match e cases T h =
      let p = then_some _ _ T h in
      (p.0, p.1, then_some _ _ T p.2)

  pub rule-Try : (e : Expr) (cases : Arms) (T : Typ) → HasType mode E S (Try e cases) T →
      HasType mode E S e T × ((Ts : Typs) × (arm_types mode false E S TExn cases ≡ Some Ts) × (one_of Ts ≡ Some T))
  rule-Try e cases T h = let p = both_some _ _ T h in (p.0, then_some _ _ T p.1)

  pub rule-Raise : (A : Typ) (e : Expr) (T : Typ) → HasType mode E S (Raise A e) T → HasType mode E S e TExn × (are_known E A ≡ true) × (view mode E S.home A ≡ T)
  rule-Raise A e T h = let p = ends _ A T h in (has_some _ TExn p.0, p.1, p.2)

  pub rule-Prim : (k : ℕ) (es : Exprs) (T : Typ) → HasType mode E S (Prim k es) T → (Ts : Typs) × (types_of mode false E S es ≡ Some Ts) × (primitive_type k Ts ≡ Some T)
  rule-Prim k es T h = then_some _ _ T h

  pub rule-Marshal : (A : Typ) (m e : Expr) (T : Typ) → HasType mode E S (Marshal A m e) T →
      HasType mode E S m TStr × (are_known E A ≡ true) × HasType mode E S e (view mode E S.home A) × (TStr ≡ T)
  rule-Marshal A m e T h =
      let p = given_some _ _ h in
      let q = both_true _ _ p.0 in
      let r = agrees _ S.home A q.1 in
      (has_some _ TStr q.0, r.0, r.1, some_eq p.1)

  pub rule-Unmarshal : (A : Typ) (e : Expr) (T : Typ) → HasType mode E S (Unmarshal A e) T → HasType mode E S e TStr × (are_known E A ≡ true) × (view mode E S.home A ≡ T)
  rule-Unmarshal A e T h = let p = ends _ A T h in (has_some _ TStr p.0, p.1, p.2)

  pub rule-Val : (A : Typ) (v : PValue) (T : Typ) → HasType mode E S (Val A v) T → (holds mode false E v A ≡ true) × (are_known E A ≡ true) × (view mode E S.home A ≡ T)
  rule-Val A v T h = ends _ A T h
