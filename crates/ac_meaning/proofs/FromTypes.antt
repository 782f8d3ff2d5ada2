-- What has a type in Coloured mode is typed, in either mode, as the reduction keeps it.
use Rattle.std.proofs.Common.{◌≡◌, refl, sym, ap, ap₂, ◌∙◌, subst, ℕ, zero, suc, ◌<◌, Bool, true, false, length, List, [], ◌∷◌, ◌++◌, Option, Some}
use Rattle.std.specs.Prelude.{slice_get, nat_lt, ◌&&◌, is_some, option_map, option_and_then}
use Rattle.std.specs.Option.{option_map_or}
use Rattle.std.specs.List.{list_all}
use mathlib.Core.Bool.{true≢false}
use Rattle.ac_types.specs.Partial.{given, agree}
use Rattle.ac_types.proofs.Same.{both_true, same_eq}
use Rattle.ac_types.proofs.FirstLaws.{none≢some, some_eq, given_some}
use Rattle.ac_types.specs.Types.{Bytes, Typ, TInt, TBool, TStr, TUnit, TExn, TTuple, TList, TOpt, TFun, TAbs, TMine, Typs, no_types, typ, same, same_all, mentions, mentions_of_all}
use Rattle.ac_terms.specs.Terms.{Home, Pattern, PWild, PVar, PInt, PBool, PStr, PUnit, PTuple, PNil, PCons, PAbsent, PPresent, PExn, PExnOf, Patterns, no_patterns, pattern', Expr, Int, Boolean, Str, Unit', Exn, ExnOf, Tuple, Nil, Empty, Present, Cons, Var, Own, Ref, Lam, Rec, App, Let, If, Seq, Match, Try, Raise, Prim, Marshal, Unmarshal, Val, Evaluated, Bracket, Exprs, no_exprs, expr, Arms, no_arms, arm, PValue, KInt, KBool, KStr, KUnit, KExn, KTuple, KList, KAbsent, KPresent, KFun, PValues, no_pvalues, pvalue, Value, VInt, VBool, VStr, VUnit, VExn, VTuple, VAbsent, VPresent, VLam, VRec, VProxy}
use Rattle.ac_terms.specs.Defs.{Environment, Entry, Def, AModule, AnImport, AMark, signature, names, find_name}
use Rattle.ac_terms.specs.Bounds.{fits_term, fit_terms, fit_arms, fits_value, fit_values}
use Rattle.ac_terms.specs.PrimitiveTypes.{Rule, arithmetic, comparison, by_rules, primitives, primitive_type}
use Rattle.ac_rules.specs.Views.{Mode, Plain, Coloured, view, type_of_entry, representation, opened, unsealed, head, rounds, has_name, opens, is_known, are_known}
use Rattle.ac_rules.specs.Typing.{Scope, bind, bind_all, all_of, HasType, type_of, type_seen, holds, all_hold, each_holds, tuple_parts, list_item, option_item, is_function, is_function_home, is_home, types_of, arm_types, variables, variables_of_all, are_all, one_of, a_list, an_option, value_in, last_of}
use Rattle.ac_rules.specs.Coherent.{IsCoherent}
use Rattle.ac_rules.proofs.Rules.{then_some, rule-Int, rule-Boolean, rule-Str, rule-Unit, rule-Exn, rule-ExnOf, rule-Tuple, rule-expr, rule-Nil, rule-Empty, rule-Present, rule-Cons, rule-Var, rule-Own, rule-Ref, rule-Lam, rule-App, rule-If, rule-Let, rule-Rec, rule-Seq, rule-Match, rule-Try, rule-Raise, rule-Prim, rule-Marshal, rule-Unmarshal, rule-Val, has_some, agree_some, also_some, joined_some, function_home}
use Rattle.ac_rules.proofs.EarlierLaws.{found_keeps}
use Rattle.ac_terms.proofs.AllLaws.{all_left, all_right}
use Rattle.ac_rules.proofs.BareLaws.{known_has}
use Rattle.ac_meaning.specs.Laws.{is_source, are_source, arms_are_source}
use Rattle.ac_meaning.specs.Rebuilding.{parts_of, item_of, argument_of, result_of, home_at, home_of_name, at_abstract, sealed, rebuilt, all_rebuilt, list_rebuilt, rebuilt_term, rebuilt_terms, rebuilt_arms}
use Rattle.ac_meaning.proofs.Sources.{left, middle}
use Rattle.ac_rules.proofs.KnownTypes.{opened_known, head_known, rounds_still}
use Rattle.ac_meaning.specs.Typed.{own_type, IsHome, IsLast, HasArm, Fits, AllFit, Typed, AllTyped, ArmsTyped, ValueTyped, ValuesTyped}
use Rattle.ac_meaning.proofs.Homes.{all_seen, seen_tuple, seen_list, seen_opt, seen_fun, seen_int, seen_bool, seen_str, seen_unit, seen_exn, view_shut, view_open, opened_is, lower, all_lower, lower_tuple, lower_list, lower_opt, lower_fun, lower_int, lower_bool, lower_str, lower_unit, lower_exn, lower_seen}

pub a_list_is : (X T : Typ) → a_list X ≡ Some T → (B : Typ) × (T ≡ TList B) × (X ≡ T)
a_list_is (TList B) T e = (B, sym (some_eq e), some_eq e)
a_list_is _ T e = absurd (none≢some e)

pub an_option_is : (X T : Typ) → an_option X ≡ Some T → (B : Typ) × (T ≡ TOpt B) × (X ≡ T)
an_option_is (TOpt B) T e = (B, sym (some_eq e), some_eq e)
an_option_is _ T e = absurd (none≢some e)

-- each of some types is T
abbrev pub EachIs : Typ → Typs → Type 0
EachIs T no_types = Unit {0}
EachIs T (typ U Us) = (U ≡ T) × EachIs T Us

all_are : (T : Typ) (Us : Typs) → are_all T Us ≡ true → EachIs T Us
all_are T no_types h = tt
all_are T (typ U Us) h = let p = both_true (same U T) (are_all T Us) h in (same_eq U T p.0, all_are T Us p.1)

pub one_is : (Ts : Typs) (T : Typ) → one_of Ts ≡ Some T → EachIs T Ts
one_is no_types T e = absurd (none≢some e)
one_is (typ U Us) T e =
    let p = given_some (are_all U Us) (Some U) e in
    let q : U ≡ T = some_eq p.1 in
    (q, subst (λ T. EachIs T Us) q (all_are U Us p.0))

-- what a home's fields and an entry's values are of, in known types
pub record KnownTypes (E : Environment) : Type 0 where
  pub own : (c : Home) (f : ℕ) (A : Typ) → own_type E c f ≡ Some A → are_known E A ≡ true
  pub values : (j : ℕ) (x : Bytes) (A : Typ) → value_in E j x ≡ Some A → are_known E A ≡ true

-- types that pass the test of equality are equal
pub all_equal : (Ts Us : Typs) → same_all Ts Us ≡ true → Ts ≡ Us
all_equal no_types no_types h = refl
all_equal (typ T Ts) (typ U Us) h = let p = both_true (same T U) (same_all Ts Us) h in ap₂ typ (same_eq T U p.0) (all_equal Ts Us p.1)
all_equal no_types (typ U Us) h = absurd (true≢false (sym h))
all_equal (typ T Ts) no_types h = absurd (true≢false (sym h))

-- the primitives are of constants, which mention no name
module _ (E : Environment) (mode : Mode) where
  abbrev Same : Rule → Type 0
  Same r = (all_lower E mode r.0 ≡ r.0) × (lower E mode r.1 ≡ r.1)

  abbrev AllSame : List Rule → Type 0
  AllSame [] = Unit {0}
  AllSame (r ∷ rs) = Same r × AllSame rs

  abbrev EachSame : List (List Rule) → Type 0
  EachSame [] = Unit {0}
  EachSame (rs ∷ rss) = AllSame rs × EachSame rss

  one_int : all_lower E mode (typ TInt no_types) ≡ typ TInt no_types
  one_int = ap (λ T. typ T no_types) (lower_int E mode)

  one_bool : all_lower E mode (typ TBool no_types) ≡ typ TBool no_types
  one_bool = ap (λ T. typ T no_types) (lower_bool E mode)

  one_str : all_lower E mode (typ TStr no_types) ≡ typ TStr no_types
  one_str = ap (λ T. typ T no_types) (lower_str E mode)

  one_unit : all_lower E mode (typ TUnit no_types) ≡ typ TUnit no_types
  one_unit = ap (λ T. typ T no_types) (lower_unit E mode)

  two_ints : all_lower E mode (typ TInt (typ TInt no_types)) ≡ typ TInt (typ TInt no_types)
  two_ints = ap₂ typ (lower_int E mode) one_int

  two_bools : all_lower E mode (typ TBool (typ TBool no_types)) ≡ typ TBool (typ TBool no_types)
  two_bools = ap₂ typ (lower_bool E mode) one_bool

  two_strs : all_lower E mode (typ TStr (typ TStr no_types)) ≡ typ TStr (typ TStr no_types)
  two_strs = ap₂ typ (lower_str E mode) one_str

  a_part : all_lower E mode (typ (TTuple (typ TStr (typ TInt (typ TInt no_types)))) no_types) ≡ typ (TTuple (typ TStr (typ TInt (typ TInt no_types)))) no_types
  a_part = ap (λ T. typ T no_types) (lower_tuple E mode (typ TStr (typ TInt (typ TInt no_types))) ∙ ap TTuple (ap₂ typ (lower_str E mode) two_ints))

  each_same : EachSame primitives
  each_same =
      let int = lower_int E mode in
      let bool = lower_bool E mode in
      let str = lower_str E mode in
      let unit = lower_unit E mode in
      let sums : AllSame arithmetic = ((two_ints, int), tt) in
      let tests : AllSame comparison = ((two_ints, bool), ((two_bools, bool), ((two_strs, bool), tt))) in
      (sums, (sums, (sums, (sums, (sums, (((one_int, int), tt), (tests, (tests, (((two_strs, str), tt), (((one_bool, bool), tt), (((one_int, unit), tt), (((one_str, unit), tt), (((one_str, unit), tt), (((one_unit, str), tt), (((one_str, int), tt), (((a_part, str), tt), (((one_int, str), tt), tt)))))))))))))))))

  by_rules_low : (rs : List Rule) → AllSame rs → (Ts : Typs) (T : Typ) → by_rules rs Ts ≡ Some T → (all_lower E mode Ts ≡ Ts) × (lower E mode T ≡ T)
  by_rules_low [] k Ts T h = absurd (none≢some h)
  by_rules_low (r ∷ rs) k Ts T h = by (by_rules_low rs k.1 Ts T) (same_all r.0 Ts) refl h
    where
      by : (by_rules rs Ts ≡ Some T → (all_lower E mode Ts ≡ Ts) × (lower E mode T ≡ T)) → (b : Bool) → same_all r.0 Ts ≡ b → elim b as (λ x. Option Typ) [ true ↦ Some r.1 | false ↦ by_rules rs Ts ] ≡ Some T → (all_lower E mode Ts ≡ Ts) × (lower E mode T ≡ T)
      by more true p q = let e : r.0 ≡ Ts = all_equal r.0 Ts p in let f : r.1 ≡ T = some_eq q in (subst (λ X. all_lower E mode X ≡ X) e k.0.0, subst (λ X. lower E mode X ≡ X) f k.0.1)
      by more false p q = more q

  each_low : (rss : List (List Rule)) → EachSame rss → (i : ℕ) (rs : List Rule) → slice_get rss i ≡ Some rs → AllSame rs
  each_low [] k i rs h = absurd (none≢some h)
  each_low (x ∷ rss) k zero rs h = subst AllSame (some_eq h) k.0
  each_low (x ∷ rss) k (suc i) rs h = each_low rss k.1 i rs h

  prim_low : (k : ℕ) (Ts : Typs) (T : Typ) → primitive_type k Ts ≡ Some T → primitive_type k (all_lower E mode Ts) ≡ Some (lower E mode T)
  prim_low k Ts T h =
      let p = then_some (λ rs. by_rules rs Ts) (slice_get primitives k) T h in
      let q = by_rules_low p.0 (each_low primitives each_same k p.0 p.1) Ts T p.2 in
      ap (primitive_type k) q.0 ∙ h ∙ ap Some (sym q.1)

module _ (E : Environment) (coherent : IsCoherent E) (known : KnownTypes E) (mode : Mode) where
  abbrev low : Typ → Typ
  low T = lower E mode T

  abbrev all_low : Typs → Typs
  all_low Ts = all_lower E mode Ts

  abbrev pub lows : List Typ → List Typ
  lows [] = []
  lows (A ∷ G) = low A ∷ lows G

  lows_get : (G : List Typ) (i : ℕ) (T : Typ) → slice_get G i ≡ Some T → slice_get (lows G) i ≡ Some (low T)
  lows_get [] i T e = absurd (none≢some e)
  lows_get (A ∷ G) zero T e = ap (λ X. Some (low X)) (some_eq e)
  lows_get (A ∷ G) (suc i) T e = lows_get G i T e

  lows_append : (G H : List Typ) → lows (G ++ H) ≡ lows G ++ lows H
  lows_append [] H = refl
  lows_append (A ∷ G) H = ap (λ X. low A ∷ X) (lows_append G H)

  -- a written type, as its home sees it
  low_seen : (c : Home) (A : Typ) → are_known E A ≡ true → low (view Coloured E c A) ≡ view mode E c A
  low_seen c A h = lower_seen E coherent mode c A h

  last_low : (Ts : Typs) (T : Typ) → last_of Ts ≡ Some T → IsLast (all_low Ts) (low T)
  last_low no_types T h = absurd (none≢some h)
  last_low (typ U no_types) T h = ap low (some_eq h)
  last_low (typ U (typ V Vs)) T h = let p = given_some (same U TUnit) _ h in (ap low (same_eq U TUnit p.0) ∙ lower_unit E mode, last_low (typ V Vs) T p.1)

  -- patterns
  fit_const : (A X : Typ) (Us : List Typ) → low X ≡ X → given (same X A) (Some []) ≡ Some Us → (low A ≡ X) × (lows Us ≡ [])
  fit_const A X Us e h =
      let p = given_some (same X A) (Some []) h in
      (ap low (sym (same_eq X A p.0)) ∙ e, ap lows (sym (some_eq p.1)))

  mutual
    fits_from : (c : Home) (p : Pattern) (A : Typ) (Us : List Typ) → variables Coloured false E c p A ≡ Some Us → Fits mode E p c (low A) (lows Us)
    fits_from c PWild A Us h = ap lows (sym (some_eq h))
    fits_from c (PVar U) A Us h =
        let p = given_some _ (Some (A ∷ [])) h in
        let q = given_some (are_known E U) (Some (view Coloured E c U)) (has_some _ A p.0) in
        (ap low (sym (some_eq q.1)) ∙ low_seen c U q.0, ap lows (sym (some_eq p.1)), q.0)
    fits_from c (PInt n) A Us h = fit_const A TInt Us (lower_int E mode) h
    fits_from c (PBool b) A Us h = fit_const A TBool Us (lower_bool E mode) h
    fits_from c (PStr s) A Us h = fit_const A TStr Us (lower_str E mode) h
    fits_from c PUnit A Us h = fit_const A TUnit Us (lower_unit E mode) h
    fits_from c (PTuple ps) (TTuple As) Us h = (all_low As, lower_tuple E mode As, all_fit_from c ps As Us h)
    fits_from c PNil (TList B) Us h = (low B, lower_list E mode B, ap lows (sym (some_eq h)))
    fits_from c (PCons p q) (TList B) Us h =
        let j = joined_some _ _ Us h in
        (low B, lows j.0, lows j.1, lower_list E mode B, fits_from c p B j.0 j.2, subst (λ X. Fits mode E q c X (lows j.1)) (lower_list E mode B) (fits_from c q (TList B) j.1 j.3), ap lows j.4 ∙ lows_append j.1 j.0)
    fits_from c PAbsent (TOpt B) Us h = (low B, lower_opt E mode B, ap lows (sym (some_eq h)))
    fits_from c (PPresent p) (TOpt B) Us h = (low B, lower_opt E mode B, fits_from c p B Us h)
    fits_from c (PExn k) TExn Us h = (lower_exn E mode, ap lows (sym (some_eq (given_some _ (Some []) h).1)))
    fits_from c (PExnOf k p) TExn Us h = (lower_exn E mode, subst (λ X. Fits mode E p c X (lows Us)) (lower_str E mode) (fits_from c p TStr Us (given_some _ _ h).1))
    fits_from c _ _ Us h = absurd (none≢some h)

    all_fit_from : (c : Home) (ps : Patterns) (As : Typs) (Us : List Typ) → variables_of_all Coloured false E c ps As ≡ Some Us → AllFit mode E ps c (all_low As) (lows Us)
    all_fit_from c no_patterns no_types Us h = ap lows (sym (some_eq h))
    all_fit_from c (pattern' p ps) (typ A As) Us h =
        let j = joined_some _ _ Us h in
        (low A, all_low As, lows j.0, lows j.1, refl, fits_from c p A j.0 j.2, all_fit_from c ps As j.1 j.3, ap lows j.4 ∙ lows_append j.1 j.0)
    all_fit_from c _ _ Us h = absurd (none≢some h)

  -- a typing with another context, and another type
  at_type : (e : Expr) (c : Home) (G : List Typ) (T U : Typ) → T ≡ U → Typed mode E e c G T → Typed mode E e c G U
  at_type e c G T U q h = subst (Typed mode E e c G) q h

  in_context : (e : Expr) (c : Home) (G H : List Typ) (T : Typ) → G ≡ H → Typed mode E e c G T → Typed mode E e c H T
  in_context e c G H T q h = subst (λ X. Typed mode E e c X T) q h

  -- what has a type has an arm
  some_arm : (S : Scope) (A T : Typ) (arms : Arms) (Ts : Typs) → arm_types Coloured false E S A arms ≡ Some Ts → one_of Ts ≡ Some T → HasArm arms
  some_arm S A T no_arms Ts h k = none≢some (ap one_of (some_eq h) ∙ k)
  some_arm S A T (arm p e rest) Ts h k = tt

  rebuilt_arm : (c : Home) (arms : Arms) → HasArm arms → HasArm (rebuilt_arms mode E c arms)
  rebuilt_arm c no_arms h = h
  rebuilt_arm c (arm p e rest) h = tt

  mutual
    pub typed_from : (e : Expr) (S : Scope) (T : Typ) → is_source e ≡ true → HasType Coloured E S e T → Typed mode E e S.home (lows S.vars) (low T)
    typed_from (Int n) S T s h = ap low (sym (rule-Int Coloured E S n T h)) ∙ lower_int E mode
    typed_from (Boolean b) S T s h = ap low (sym (rule-Boolean Coloured E S b T h)) ∙ lower_bool E mode
    typed_from (Str x) S T s h = ap low (sym (rule-Str Coloured E S x T h)) ∙ lower_str E mode
    typed_from Unit' S T s h = ap low (sym (rule-Unit Coloured E S T h)) ∙ lower_unit E mode
    typed_from (Exn k) S T s h = ap low (sym (rule-Exn Coloured E S k T h).1) ∙ lower_exn E mode
    typed_from (ExnOf k e) S T s h =
        let p = rule-ExnOf Coloured E S k e T h in
        (ap low (sym p.2) ∙ lower_exn E mode, at_type e S.home (lows S.vars) (low TStr) TStr (lower_str E mode) (typed_from e S TStr s p.1))
    typed_from (Tuple es) S T s h =
        let p = rule-Tuple Coloured E S es T h in
        (all_low p.0, ap low (sym p.2) ∙ lower_tuple E mode p.0, all_typed_from es S p.0 s p.1)
    typed_from (Nil A) S T s h =
        let q = rule-Nil Coloured E S A T h in
        let p = a_list_is (view Coloured E S.home A) T q.1 in
        (low p.0, ap low p.1 ∙ lower_list E mode p.0, ap low (sym p.2) ∙ low_seen S.home A q.0, q.0)
    typed_from (Empty A) S T s h =
        let q = rule-Empty Coloured E S A T h in
        let p = an_option_is (view Coloured E S.home A) T q.1 in
        (low p.0, ap low p.1 ∙ lower_opt E mode p.0, ap low (sym p.2) ∙ low_seen S.home A q.0, q.0)
    typed_from (Present e) S T s h = let p = rule-Present Coloured E S e T h in (low p.0, ap low (sym p.2) ∙ lower_opt E mode p.0, typed_from e S p.0 s p.1)
    typed_from (Cons a b) S T s h =
        let p = rule-Cons Coloured E S a b T h in
        let w = both_true (is_source a) (is_source b) s in
        let q : low T ≡ TList (low p.1.0) = ap low (sym p.1.2) ∙ lower_list E mode p.1.0 in
        (low p.1.0, q, typed_from a S p.1.0 w.0 p.1.1, at_type b S.home (lows S.vars) (low T) (TList (low p.1.0)) q (typed_from b S T w.1 p.0))
    typed_from (Var i) S T s h = lows_get S.vars i T (rule-Var Coloured E S i T h)
    typed_from (Own f) S T s h =
        let p = rule-Own Coloured E S f T h in
        let q : own_type E S.home f ≡ Some p.0 = (given_some (nat_lt f S.own) _ p.1).1 in
        (p.0, q, ap low (sym p.2) ∙ low_seen S.home p.0 (known.own S.home f p.0 q))
    typed_from (Ref j x) S T s h =
        let p = rule-Ref Coloured E S j x T h in
        let q : value_in E j x ≡ Some p.0 = (given_some (nat_lt j S.refs) _ p.1).1 in
        (p.0, q, ap low (sym p.2) ∙ low_seen S.home p.0 (known.values j x p.0 q))
    typed_from (Lam A e) S T s h =
        let p = rule-Lam Coloured E S A e T h in
        let a = low_seen S.home A p.0 in
        let B = p.1.0 in (
          low B,
          ap low (sym p.1.2) ∙ lower_fun E mode (view Coloured E S.home A) B ∙ ap (λ X. TFun X (low B)) a,
          in_context e S.home _ _ (low B) (ap (λ X. X ∷ lows S.vars) a) (typed_from e (bind (view Coloured E S.home A) S) B s p.1.1),
          p.0,
        )
    typed_from (Rec A B e) S T s h =
        let p = rule-Rec Coloured E S A B e T h in
        let a = low_seen S.home A p.0 in
        let b = low_seen S.home B p.1 in
        let f : low (TFun (view Coloured E S.home A) (view Coloured E S.home B)) ≡ TFun (view mode E S.home A) (view mode E S.home B) =
        lower_fun E mode (view Coloured E S.home A) (view Coloured E S.home B) ∙ ap₂ TFun a b in (
          ap low (sym p.3) ∙ f,
          at_type e S.home _ _ _ b (in_context e S.home _ _ _ (ap₂ (λ X Y. X ∷ Y ∷ lows S.vars) a f) (typed_from e (bind (view Coloured E S.home A) (bind (TFun (view Coloured E S.home A) (view Coloured E S.home B)) S)) (view Coloured E S.home B) s p.2)),
          p.0,
          p.1,
        )
    typed_from (App f a) S T s h =
        let p = rule-App Coloured E S f a T h in
        let w = both_true (is_source f) (is_source a) s in
        (low p.0, at_type f S.home (lows S.vars) _ _ (lower_fun E mode p.0 T) (typed_from f S (TFun p.0 T) w.0 p.1), typed_from a S p.0 w.1 p.2)
    typed_from (Let A e b) S T s h =
        let p = rule-Let Coloured E S A e b T h in
        let w = both_true (is_source e) (is_source b) s in
        let a = low_seen S.home A p.0 in
        (at_type e S.home (lows S.vars) _ _ a (typed_from e S (view Coloured E S.home A) w.0 p.1), in_context b S.home _ _ (low T) (ap (λ X. X ∷ lows S.vars) a) (typed_from b (bind (view Coloured E S.home A) S) T w.1 p.2), p.0)
    typed_from (If e a b) S T s h =
        let p = rule-If Coloured E S e a b T h in
        let w = both_true (is_source e) (is_source a && is_source b) s in
        let v = both_true (is_source a) (is_source b) w.1 in
        (at_type e S.home (lows S.vars) _ _ (lower_bool E mode) (typed_from e S TBool w.0 p.0), typed_from a S T v.0 p.1, typed_from b S T v.1 p.2)
    typed_from (Seq es) S T s h = let p = rule-Seq Coloured E S es T h in (all_low p.0, all_typed_from es S p.0 s p.1, last_low p.0 T p.2)
    typed_from (Match e arms) S T s h =
        let p = rule-Match Coloured E S e arms T h in
        let w = both_true (is_source e) (arms_are_source arms) s in
        (low p.0, typed_from e S p.0 w.0 p.1, arms_typed_from arms S p.0 T p.2.0 w.1 p.2.1 (one_is p.2.0 T p.2.2), some_arm S p.0 T arms p.2.0 p.2.1 p.2.2)
    typed_from (Try e arms) S T s h =
        let p = rule-Try Coloured E S e arms T h in
        let w = both_true (is_source e) (arms_are_source arms) s in
        (typed_from e S T w.0 p.0, subst (λ X. ArmsTyped mode E arms S.home (lows S.vars) X (low T)) (lower_exn E mode) (arms_typed_from arms S TExn T p.1.0 w.1 p.1.1 (one_is p.1.0 T p.1.2)), some_arm S TExn T arms p.1.0 p.1.1 p.1.2)
    typed_from (Raise A e) S T s h = let p = rule-Raise Coloured E S A e T h in (ap low (sym p.2) ∙ low_seen S.home A p.1, at_type e S.home (lows S.vars) _ _ (lower_exn E mode) (typed_from e S TExn s p.0), p.1)
    typed_from (Prim k es) S T s h = let p = rule-Prim Coloured E S k es T h in (all_low p.0, all_typed_from es S p.0 s p.1, prim_low E mode k p.0 T p.2)
    typed_from (Marshal A m e) S T s h =
        let p = rule-Marshal Coloured E S A m e T h in
        let w = both_true (is_source m) (is_source e) s in
        let str = lower_str E mode in (
          ap low (sym p.3) ∙ str,
          at_type m S.home (lows S.vars) _ _ str (typed_from m S TStr w.0 p.0),
          at_type e S.home (lows S.vars) _ _ (low_seen S.home A p.1) (typed_from e S (view Coloured E S.home A) w.1 p.2),
          p.1,
        )
    typed_from (Unmarshal A e) S T s h =
        let p = rule-Unmarshal Coloured E S A e T h in
        (ap low (sym p.2) ∙ low_seen S.home A p.1, at_type e S.home (lows S.vars) _ _ (lower_str E mode) (typed_from e S TStr s p.0), p.1)
    typed_from (Val A v) S T s h = absurd (true≢false (sym s))
    typed_from (Evaluated A v) S T s h = absurd (true≢false (sym s))
    typed_from (Bracket c A e) S T s h = absurd (true≢false (sym s))

    all_typed_from : (es : Exprs) (S : Scope) (Ts : Typs) → are_source es ≡ true → types_of Coloured false E S es ≡ Some Ts → AllTyped mode E es S.home (lows S.vars) (all_low Ts)
    all_typed_from no_exprs S Ts s h = ap all_low (sym (some_eq h))
    all_typed_from (expr e es) S Ts s h =
        let p = rule-expr Coloured E S e es Ts h in
        let w = both_true (is_source e) (are_source es) s in
        (low p.0, all_low p.1, ap all_low (sym p.4), typed_from e S p.0 w.0 p.2, all_typed_from es S p.1 w.1 p.3)

    arms_typed_from : (arms : Arms) (S : Scope) (A T : Typ) (Ts : Typs) → arms_are_source arms ≡ true → arm_types Coloured false E S A arms ≡ Some Ts → EachIs T Ts → ArmsTyped mode E arms S.home (lows S.vars) (low A) (low T)
    arms_typed_from no_arms S A T Ts s h k = tt
    arms_typed_from (arm p e rest) S A T Ts s h k =
        let w = both_true (is_source e) (arms_are_source rest) s in
        let q = also_some _ _ Ts h in
        let v = then_some _ (variables Coloured false E S.home p A) q.0 q.2 in
        let each : EachIs T (typ q.0 q.1) = subst (EachIs T) (sym q.4) k in (
          lows v.0,
          fits_from S.home p A v.0 v.1,
          in_context e S.home _ _ (low T) (lows_append v.0 S.vars) (at_type e S.home _ _ _ (ap low each.0) (typed_from e (bind_all v.0 S) q.0 w.0 v.2)),
          arms_typed_from rest S A T q.1 w.1 q.3 each.1,
        )

  -- terms with packed values in them: the value that is rebuilt in the term's home comes in the place of each
  abbrev r : Home → Expr → Expr
  r c e = rebuilt_term mode E c e

  -- what is seen in Coloured mode
  abbrev seen_as : Environment → Home → Typ → Option Typ
  seen_as G c T = type_seen Coloured false G c T

  pub agreed : (c : Home) (T : Typ) (t : Option Typ) → agree t (seen_as E c T) ≡ true → t ≡ Some (view Coloured E c T)
  agreed c T t h =
      let a = agree_some t (seen_as E c T) h in
      a.1 ∙ ap Some (sym (some_eq (given_some (are_known E T) (Some (view Coloured E c T)) a.2).1))

  -- the home of a known name is one, and opens it
  has_signature : (d : Def) (t : Bytes) (k : Option ℕ) (R : Typ) → type_of_entry E t d k ≡ Some R → is_some (signature d) ≡ true
  has_signature (AModule m) t k R h = refl
  has_signature (AnImport m) t k R h = refl
  has_signature (AMark s) t k R h = absurd (none≢some h)

  pub name_home : (n t : Bytes) → is_known E (n, t) ≡ true → is_home E (home_of_name mode E n) ≡ true
  name_home n t h =
      let x = known_has E coherent n t h in
      let p = then_some (λ i. option_and_then (λ (e : Entry). type_of_entry E t e.def e.link) (slice_get E i)) (find_name E n) x.1 x.4 in
      let e = then_some (λ (e : Entry). type_of_entry E t e.def e.link) (slice_get E p.0) x.1 p.2 in
      ap (λ o. is_home E (home_at o)) p.1 ∙ ap (λ o. is_some (option_and_then signature (option_map (λ (y : Entry). y.def) o))) e.1 ∙ has_signature e.0.def t e.0.link x.1 e.2

  pub name_opens : (m : Mode) (n t : Bytes) → is_known E (n, t) ≡ true → opens m E (home_of_name mode E n) n ≡ true
  name_opens Plain n t h = refl
  name_opens Coloured n t h =
      let x = known_has E coherent n t h in
      let e = found_keeps E n x.0 x.2 in
      ap (λ o. has_name E (home_at o) n) x.2 ∙ ap (λ o. names (option_and_then (λ (y : Entry). y.name) o) n) e.1 ∙ e.2

  -- a value inside its seals
  abbrev MakesOk : Typ → (Home → Typ → Value) → Type 0
  MakesOk U make = (d : Home) → IsHome mode E d → ValueTyped mode E (make d U) d (view mode E d U)

  unsealed_ok : (k : ℕ) (c : Home) (T : Typ) (make : Home → Typ → Value) → unsealed E T ≡ T → IsHome mode E c → MakesOk (rounds (suc k) (unsealed E) T) make → ValueTyped mode E (make c T) c (view mode E c T)
  unsealed_ok k c T make e o h = subst (λ X. ValueTyped mode E (make c X) c (view mode E c X)) (rounds_still (suc k) (unsealed E) T e) (h c o)

  sealed_ok : (k : ℕ) (c : Home) (T : Typ) (make : Home → Typ → Value) → are_known E T ≡ true → IsHome mode E c → MakesOk (rounds k (unsealed E) T) make → ValueTyped mode E (sealed mode E k c T make) c (view mode E c T)
  sealed_ok zero c T make k o h = h c o
  sealed_ok (suc j) c (TAbs n t) make k o h = by (λ d p. sealed_ok j d (opened E n t) make (opened_known E coherent n t known') p h) (opens mode E c n) refl
    where
      known' : is_known E (n, t) ≡ true
      known' = (both_true (is_known E (n, t)) true k).0

      x : (i : ℕ) × (R : Typ) × (find_name E n ≡ Some i) × (i < length E) × (representation E n t ≡ Some R)
      x = known_has E coherent n t known'

      there : (d : Home) → opens mode E d n ≡ true → view mode E d (TAbs n t) ≡ view mode E d (opened E n t)
      there d p = view_open E coherent mode d n t x.1 x.4 k p ∙ ap (view mode E d) (sym (opened_is E coherent n t x.1 x.4))

      by : ((d : Home) → IsHome mode E d → ValueTyped mode E (sealed mode E j d (opened E n t) make) d (view mode E d (opened E n t))) → (b : Bool) → opens mode E c n ≡ b → ValueTyped mode E (at_abstract mode E b c n t (λ d U. sealed mode E j d U make)) c (view mode E c (TAbs n t))
      by f true p = subst (λ X. ValueTyped mode E (sealed mode E j c (opened E n t) make) c X) (sym (there c p)) (f c o)
      by f false p =
          let d = home_of_name mode E n in
          let p' = name_opens mode n t known' in
          let o' = name_home n t known' in
          (view_shut E mode c n t p, k, p', p, subst (λ X. ValueTyped mode E (sealed mode E j d (opened E n t) make) d X) (sym (there d p')) (f d o'), o')
  sealed_ok (suc j) c TInt make k o h = unsealed_ok j c TInt make refl o h
  sealed_ok (suc j) c TBool make k o h = unsealed_ok j c TBool make refl o h
  sealed_ok (suc j) c TStr make k o h = unsealed_ok j c TStr make refl o h
  sealed_ok (suc j) c TUnit make k o h = unsealed_ok j c TUnit make refl o h
  sealed_ok (suc j) c TExn make k o h = unsealed_ok j c TExn make refl o h
  sealed_ok (suc j) c (TTuple Ts) make k o h = unsealed_ok j c (TTuple Ts) make refl o h
  sealed_ok (suc j) c (TList T) make k o h = unsealed_ok j c (TList T) make refl o h
  sealed_ok (suc j) c (TOpt T) make k o h = unsealed_ok j c (TOpt T) make refl o h
  sealed_ok (suc j) c (TFun T U) make k o h = unsealed_ok j c (TFun T U) make refl o h
  sealed_ok (suc j) c (TMine t) make k o h = unsealed_ok j c (TMine t) make refl o h

  mutual
    pub rebuilt_typed : (e : Expr) (S : Scope) (T : Typ) → fits_term true e ≡ true → HasType Coloured E S e T → IsHome mode E S.home → Typed mode E (r S.home e) S.home (lows S.vars) (low T)
    rebuilt_typed (Int n) S T s h o = ap low (sym (rule-Int Coloured E S n T h)) ∙ lower_int E mode
    rebuilt_typed (Boolean b) S T s h o = ap low (sym (rule-Boolean Coloured E S b T h)) ∙ lower_bool E mode
    rebuilt_typed (Str x) S T s h o = ap low (sym (rule-Str Coloured E S x T h)) ∙ lower_str E mode
    rebuilt_typed Unit' S T s h o = ap low (sym (rule-Unit Coloured E S T h)) ∙ lower_unit E mode
    rebuilt_typed (Exn k) S T s h o = ap low (sym (rule-Exn Coloured E S k T h).1) ∙ lower_exn E mode
    rebuilt_typed (ExnOf k e) S T s h o =
        let p = rule-ExnOf Coloured E S k e T h in
        (ap low (sym p.2) ∙ lower_exn E mode, at_type (r S.home e) S.home (lows S.vars) (low TStr) TStr (lower_str E mode) (rebuilt_typed e S TStr (both_true _ _ s).1 p.1 o))
    rebuilt_typed (Tuple es) S T s h o =
        let p = rule-Tuple Coloured E S es T h in
        (all_low p.0, ap low (sym p.2) ∙ lower_tuple E mode p.0, rebuilt_terms_typed es S p.0 (both_true _ _ s).1 p.1 o)
    rebuilt_typed (Nil A) S T s h o =
        let q = rule-Nil Coloured E S A T h in
        let p = a_list_is (view Coloured E S.home A) T q.1 in
        (low p.0, ap low p.1 ∙ lower_list E mode p.0, ap low (sym p.2) ∙ low_seen S.home A q.0, q.0)
    rebuilt_typed (Empty A) S T s h o =
        let q = rule-Empty Coloured E S A T h in
        let p = an_option_is (view Coloured E S.home A) T q.1 in
        (low p.0, ap low p.1 ∙ lower_opt E mode p.0, ap low (sym p.2) ∙ low_seen S.home A q.0, q.0)
    rebuilt_typed (Present e) S T s h o = let p = rule-Present Coloured E S e T h in (low p.0, ap low (sym p.2) ∙ lower_opt E mode p.0, rebuilt_typed e S p.0 s p.1 o)
    rebuilt_typed (Cons a b) S T s h o =
        let p = rule-Cons Coloured E S a b T h in
        let w0 = (both_true (fits_term true a) (fits_term true b) s).0 in
        let w1 = (both_true (fits_term true a) (fits_term true b) s).1 in
        let q : low T ≡ TList (low p.1.0) = ap low (sym p.1.2) ∙ lower_list E mode p.1.0 in
        (low p.1.0, q, rebuilt_typed a S p.1.0 w0 p.1.1 o, at_type (r S.home b) S.home (lows S.vars) (low T) (TList (low p.1.0)) q (rebuilt_typed b S T w1 p.0 o))
    rebuilt_typed (Var i) S T s h o = lows_get S.vars i T (rule-Var Coloured E S i T h)
    rebuilt_typed (Own f) S T s h o =
        let p = rule-Own Coloured E S f T h in
        let q : own_type E S.home f ≡ Some p.0 = (given_some (nat_lt f S.own) _ p.1).1 in
        (p.0, q, ap low (sym p.2) ∙ low_seen S.home p.0 (known.own S.home f p.0 q))
    rebuilt_typed (Ref j x) S T s h o =
        let p = rule-Ref Coloured E S j x T h in
        let q : value_in E j x ≡ Some p.0 = (given_some (nat_lt j S.refs) _ p.1).1 in
        (p.0, q, ap low (sym p.2) ∙ low_seen S.home p.0 (known.values j x p.0 q))
    rebuilt_typed (Lam A e) S T s h o =
        let p = rule-Lam Coloured E S A e T h in
        let a = low_seen S.home A p.0 in
        let B = p.1.0 in (
          low B,
          ap low (sym p.1.2) ∙ lower_fun E mode (view Coloured E S.home A) B ∙ ap (λ X. TFun X (low B)) a,
          in_context (r S.home e) S.home _ _ (low B) (ap (λ X. X ∷ lows S.vars) a) (rebuilt_typed e (bind (view Coloured E S.home A) S) B (both_true _ _ s).1 p.1.1 o),
          p.0,
        )
    rebuilt_typed (Rec A B e) S T s h o =
        let p = rule-Rec Coloured E S A B e T h in
        let a = low_seen S.home A p.0 in
        let b = low_seen S.home B p.1 in
        let f : low (TFun (view Coloured E S.home A) (view Coloured E S.home B)) ≡ TFun (view mode E S.home A) (view mode E S.home B) =
        lower_fun E mode (view Coloured E S.home A) (view Coloured E S.home B) ∙ ap₂ TFun a b in (
          ap low (sym p.3) ∙ f,
          at_type (r S.home e) S.home _ _ _ b (in_context (r S.home e) S.home _ _ _ (ap₂ (λ X Y. X ∷ Y ∷ lows S.vars) a f) (rebuilt_typed e (bind (view Coloured E S.home A) (bind (TFun (view Coloured E S.home A) (view Coloured E S.home B)) S)) (view Coloured E S.home B) (both_true _ _ s).1 p.2 o)),
          p.0,
          p.1,
        )
    rebuilt_typed (App f a) S T s h o =
        let p = rule-App Coloured E S f a T h in
        let w0 = (both_true (fits_term true f) (fits_term true a) s).0 in
        let w1 = (both_true (fits_term true f) (fits_term true a) s).1 in
        (low p.0, at_type (r S.home f) S.home (lows S.vars) _ _ (lower_fun E mode p.0 T) (rebuilt_typed f S (TFun p.0 T) w0 p.1 o), rebuilt_typed a S p.0 w1 p.2 o)
    rebuilt_typed (Let A e b) S T s h o =
        let p = rule-Let Coloured E S A e b T h in
        let w0 = middle _ _ _ s in
        let w1 = (both_true _ _ s).1 in
        let a = low_seen S.home A p.0 in
        (at_type (r S.home e) S.home (lows S.vars) _ _ a (rebuilt_typed e S (view Coloured E S.home A) w0 p.1 o), in_context (r S.home b) S.home _ _ (low T) (ap (λ X. X ∷ lows S.vars) a) (rebuilt_typed b (bind (view Coloured E S.home A) S) T w1 p.2 o), p.0)
    rebuilt_typed (If e a b) S T s h o =
        let p = rule-If Coloured E S e a b T h in
        let w0 = left _ _ _ s in
        let v0 = middle _ _ _ s in
        let v1 = (both_true _ _ s).1 in
        (at_type (r S.home e) S.home (lows S.vars) _ _ (lower_bool E mode) (rebuilt_typed e S TBool w0 p.0 o), rebuilt_typed a S T v0 p.1 o, rebuilt_typed b S T v1 p.2 o)
    rebuilt_typed (Seq es) S T s h o = let p = rule-Seq Coloured E S es T h in (all_low p.0, rebuilt_terms_typed es S p.0 (both_true _ _ s).1 p.1 o, last_low p.0 T p.2)
    rebuilt_typed (Match e arms) S T s h o =
        let p = rule-Match Coloured E S e arms T h in
        let w0 = left _ _ _ (both_true _ _ s).0 in
        let w1 = middle _ _ _ (both_true _ _ s).0 in
        (low p.0, rebuilt_typed e S p.0 w0 p.1 o, rebuilt_arms_typed arms S p.0 T p.2.0 w1 p.2.1 (one_is p.2.0 T p.2.2) o, rebuilt_arm S.home arms (some_arm S p.0 T arms p.2.0 p.2.1 p.2.2))
    rebuilt_typed (Try e arms) S T s h o =
        let p = rule-Try Coloured E S e arms T h in
        let w0 = left _ _ _ (both_true _ _ s).0 in
        let w1 = middle _ _ _ (both_true _ _ s).0 in
        (rebuilt_typed e S T w0 p.0 o, subst (λ X. ArmsTyped mode E (rebuilt_arms mode E S.home arms) S.home (lows S.vars) X (low T)) (lower_exn E mode) (rebuilt_arms_typed arms S TExn T p.1.0 w1 p.1.1 (one_is p.1.0 T p.1.2) o), rebuilt_arm S.home arms (some_arm S TExn T arms p.1.0 p.1.1 p.1.2))
    rebuilt_typed (Raise A e) S T s h o =
        let p = rule-Raise Coloured E S A e T h in
        (ap low (sym p.2) ∙ low_seen S.home A p.1, at_type (r S.home e) S.home (lows S.vars) _ _ (lower_exn E mode) (rebuilt_typed e S TExn (both_true _ _ s).1 p.0 o), p.1)
    rebuilt_typed (Prim k es) S T s h o = let p = rule-Prim Coloured E S k es T h in (all_low p.0, rebuilt_terms_typed es S p.0 (both_true _ _ s).1 p.1 o, prim_low E mode k p.0 T p.2)
    rebuilt_typed (Marshal A m e) S T s h o =
        let p = rule-Marshal Coloured E S A m e T h in
        let w0 = middle _ _ _ s in
        let w1 = (both_true _ _ s).1 in
        let str = lower_str E mode in (
          ap low (sym p.3) ∙ str,
          at_type (r S.home m) S.home (lows S.vars) _ _ str (rebuilt_typed m S TStr w0 p.0 o),
          at_type (r S.home e) S.home (lows S.vars) _ _ (low_seen S.home A p.1) (rebuilt_typed e S (view Coloured E S.home A) w1 p.2 o),
          p.1,
        )
    rebuilt_typed (Unmarshal A e) S T s h o =
        let p = rule-Unmarshal Coloured E S A e T h in
        (ap low (sym p.2) ∙ low_seen S.home A p.1, at_type (r S.home e) S.home (lows S.vars) _ _ (lower_str E mode) (rebuilt_typed e S TStr (both_true _ _ s).1 p.0 o), p.1)
    rebuilt_typed (Val A v) S T s h o =
        let p = rule-Val Coloured E S A v T h in
        let q : low T ≡ view mode E S.home A = ap low (sym p.2) ∙ low_seen S.home A p.1 in
        (q, subst (λ X. ValueTyped mode E (rebuilt mode E S.home A v) S.home X) (sym q) (rebuilt_ok v S.home A p.1 o (both_true _ _ s).1 p.0), p.1)
    rebuilt_typed (Evaluated A v) S T s h o = absurd (true≢false (sym s))
    rebuilt_typed (Bracket c A e) S T s h o = absurd (true≢false (sym s))

    rebuilt_terms_typed : (es : Exprs) (S : Scope) (Ts : Typs) → fit_terms true es ≡ true → types_of Coloured false E S es ≡ Some Ts → IsHome mode E S.home → AllTyped mode E (rebuilt_terms mode E S.home es) S.home (lows S.vars) (all_low Ts)
    rebuilt_terms_typed no_exprs S Ts s h o = ap all_low (sym (some_eq h))
    rebuilt_terms_typed (expr e es) S Ts s h o =
        let p = rule-expr Coloured E S e es Ts h in
        let w0 = (both_true (fits_term true e) (fit_terms true es) s).0 in
        let w1 = (both_true (fits_term true e) (fit_terms true es) s).1 in
        (low p.0, all_low p.1, ap all_low (sym p.4), rebuilt_typed e S p.0 w0 p.2 o, rebuilt_terms_typed es S p.1 w1 p.3 o)

    rebuilt_arms_typed : (arms : Arms) (S : Scope) (A T : Typ) (Ts : Typs) → fit_arms true arms ≡ true → arm_types Coloured false E S A arms ≡ Some Ts → EachIs T Ts → IsHome mode E S.home → ArmsTyped mode E (rebuilt_arms mode E S.home arms) S.home (lows S.vars) (low A) (low T)
    rebuilt_arms_typed no_arms S A T Ts s h k o = tt
    rebuilt_arms_typed (arm p e rest) S A T Ts s h k o =
        let w0 = middle _ _ _ s in
        let w1 = (both_true _ _ s).1 in
        let q = also_some _ _ Ts h in
        let v = then_some _ (variables Coloured false E S.home p A) q.0 q.2 in
        let each : EachIs T (typ q.0 q.1) = subst (EachIs T) (sym q.4) k in (
          lows v.0,
          fits_from S.home p A v.0 v.1,
          in_context (r S.home e) S.home _ _ (low T) (lows_append v.0 S.vars) (at_type (r S.home e) S.home _ _ _ (ap low each.0) (rebuilt_typed e (bind_all v.0 S) q.0 w0 v.2 o)),
          rebuilt_arms_typed rest S A T q.1 w1 q.3 each.1 o,
        )

    -- a packed value of a type, rebuilt in a home, is of the type
    pub rebuilt_ok : (v : PValue) (c : Home) (T : Typ) → are_known E T ≡ true → IsHome mode E c → fits_value v ≡ true → holds Coloured false E v T ≡ true → ValueTyped mode E (rebuilt mode E c T v) c (view mode E c T)
    rebuilt_ok (KInt n) c T k o w h = sealed_ok (length E) c T (λ d U. VInt n) k o (λ d p. ap (view mode E d) (same_eq (head E T) TInt h) ∙ seen_int E mode d)
    rebuilt_ok (KBool b) c T k o w h = sealed_ok (length E) c T (λ d U. VBool b) k o (λ d p. ap (view mode E d) (same_eq (head E T) TBool h) ∙ seen_bool E mode d)
    rebuilt_ok (KStr s) c T k o w h = sealed_ok (length E) c T (λ d U. VStr s) k o (λ d p. ap (view mode E d) (same_eq (head E T) TStr h) ∙ seen_str E mode d)
    rebuilt_ok KUnit c T k o w h = sealed_ok (length E) c T (λ d U. VUnit) k o (λ d p. ap (view mode E d) (same_eq (head E T) TUnit h) ∙ seen_unit E mode d)
    rebuilt_ok (KExn j s) c T k o w h = sealed_ok (length E) c T (λ d U. VExn j s) k o (λ d p. ap (view mode E d) (same_eq (head E T) TExn (both_true _ _ h).0) ∙ seen_exn E mode d)
    rebuilt_ok (KTuple vs) c T k o w h =
        sealed_ok (length E) c T (λ d U. VTuple (all_rebuilt mode E d (parts_of U) vs)) k o (λ d p. by d (λ Ts l i. all_rebuilt_ok vs d Ts l p (both_true _ _ w).1 i) (head E T) (head_known E coherent T k) h)
      where
        by : (d : Home) → ((Ts : Typs) → list_all (is_known E) (mentions_of_all Ts) ≡ true → all_hold Coloured false E vs Ts ≡ true → ValuesTyped mode E (all_rebuilt mode E d Ts vs) d (all_seen E mode d Ts)) → (X : Typ) → are_known E X ≡ true → option_map_or (λ Ts. all_hold Coloured false E vs Ts) (tuple_parts X) false ≡ true →
            ValueTyped mode E (VTuple (all_rebuilt mode E d (parts_of X) vs)) d (view mode E d X)
        by d f (TTuple Ts) l i = (all_seen E mode d Ts, seen_tuple E mode d Ts, f Ts l i)
        by d f _ l i = absurd (true≢false (sym i))
    rebuilt_ok (KList vs) c T k o w h =
        sealed_ok (length E) c T (λ d U. list_rebuilt mode E d U vs) k o (λ d p. by d (λ U l i. list_rebuilt_ok vs d U l p (both_true _ _ w).1 i) (head E T) (head_known E coherent T k) h)
      where
        by : (d : Home) → ((U : Typ) → are_known E U ≡ true → each_holds Coloured false E vs U ≡ true → ValueTyped mode E (list_rebuilt mode E d (TList U) vs) d (TList (view mode E d U))) → (X : Typ) → are_known E X ≡ true → option_map_or (λ U. each_holds Coloured false E vs U) (list_item X) false ≡ true →
            ValueTyped mode E (list_rebuilt mode E d X vs) d (view mode E d X)
        by d f (TList U) l i = subst (λ X. ValueTyped mode E (list_rebuilt mode E d (TList U) vs) d X) (sym (seen_list E mode d U)) (f U l i)
        by d f _ l i = absurd (true≢false (sym i))
    rebuilt_ok KAbsent c T k o w h = sealed_ok (length E) c T (λ d U. VAbsent U) k o (λ d p. by d (head E T) (head_known E coherent T k) h)
      where
        by : (d : Home) (X : Typ) → are_known E X ≡ true → is_some (option_item X) ≡ true → ValueTyped mode E (VAbsent X) d (view mode E d X)
        by d (TOpt U) l i = (view mode E d U, seen_opt E mode d U, refl, l)
        by d _ l i = absurd (true≢false (sym i))
    rebuilt_ok (KPresent v) c T k o w h =
        sealed_ok (length E) c T (λ d U. VPresent (rebuilt mode E d (item_of U) v)) k o (λ d p. by d (λ U l i. rebuilt_ok v d U l p w i) (head E T) (head_known E coherent T k) h)
      where
        by : (d : Home) → ((U : Typ) → are_known E U ≡ true → holds Coloured false E v U ≡ true → ValueTyped mode E (rebuilt mode E d U v) d (view mode E d U)) → (X : Typ) → are_known E X ≡ true → option_map_or (λ U. holds Coloured false E v U) (option_item X) false ≡ true →
            ValueTyped mode E (VPresent (rebuilt mode E d (item_of X) v)) d (view mode E d X)
        by d f (TOpt U) l i = (view mode E d U, seen_opt E mode d U, f U l i)
        by d f _ l i = absurd (true≢false (sym i))
    rebuilt_ok (KFun b (Lam A e)) c T k o w h =
        sealed_ok (length E) c T (λ d U. VProxy b (argument_of U) (result_of U) (VLam A (rebuilt_term mode E b e))) k o
        (λ d p. by d (λ t. rebuilt_typed (Lam A e) (all_of E b) (view Coloured E b (head E T)) (both_true _ _ w).1 t (function_home E b (both_true _ _ (both_true _ _ h).0).1)) (function_home E b (both_true _ _ (both_true _ _ h).0).1) (head E T) refl (head_known E coherent T k) h)
      where
        by : (d : Home) → (HasType Coloured E (all_of E b) (Lam A e) (view Coloured E b (head E T)) → Typed mode E (Lam A (rebuilt_term mode E b e)) b [] (low (view Coloured E b (head E T)))) → IsHome mode E b → (X : Typ) → head E T ≡ X → are_known E X ≡ true →
            (is_function X && is_function_home E b && agree (type_of Coloured false E (all_of E b) (Lam A e)) (seen_as E b X)) ≡ true → ValueTyped mode E (VProxy b (argument_of X) (result_of X) (VLam A (rebuilt_term mode E b e))) d (view mode E d X)
        by d f q (TFun P Q) y l i =
            let l1 = all_left (is_known E) (mentions P) (mentions Q) l in
            let l2 = all_right (is_known E) (mentions P) (mentions Q) l in
            let t = agreed b (TFun P Q) (type_of Coloured false E (all_of E b) (Lam A e)) (both_true _ _ i).1 in
            let g = f (t ∙ ap (λ X. Some (view Coloured E b X)) (sym y)) in
            let s : low (view Coloured E b (head E T)) ≡ TFun (view mode E b P) (view mode E b Q) = ap (λ X. low (view Coloured E b X)) y ∙ low_seen b (TFun P Q) l ∙ seen_fun E mode b P Q in
            (seen_fun E mode d P Q, l1, l2, (g.0, sym s ∙ g.1, g.2, g.3), q)
        by d f q _ y l i = absurd (true≢false (sym i))
    rebuilt_ok (KFun b (Rec A B e)) c T k o w h =
        sealed_ok (length E) c T (λ d U. VProxy b (argument_of U) (result_of U) (VRec A B (rebuilt_term mode E b e))) k o
        (λ d p. by d (λ t. rebuilt_typed (Rec A B e) (all_of E b) (view Coloured E b (head E T)) (both_true _ _ w).1 t (function_home E b (both_true _ _ (both_true _ _ h).0).1)) (function_home E b (both_true _ _ (both_true _ _ h).0).1) (head E T) refl (head_known E coherent T k) h)
      where
        by : (d : Home) → (HasType Coloured E (all_of E b) (Rec A B e) (view Coloured E b (head E T)) → Typed mode E (Rec A B (rebuilt_term mode E b e)) b [] (low (view Coloured E b (head E T)))) → IsHome mode E b → (X : Typ) → head E T ≡ X → are_known E X ≡ true →
            (is_function X && is_function_home E b && agree (type_of Coloured false E (all_of E b) (Rec A B e)) (seen_as E b X)) ≡ true → ValueTyped mode E (VProxy b (argument_of X) (result_of X) (VRec A B (rebuilt_term mode E b e))) d (view mode E d X)
        by d f q (TFun P Q) y l i =
            let l1 = all_left (is_known E) (mentions P) (mentions Q) l in
            let l2 = all_right (is_known E) (mentions P) (mentions Q) l in
            let t = agreed b (TFun P Q) (type_of Coloured false E (all_of E b) (Rec A B e)) (both_true _ _ i).1 in
            let g = f (t ∙ ap (λ X. Some (view Coloured E b X)) (sym y)) in
            let s : low (view Coloured E b (head E T)) ≡ TFun (view mode E b P) (view mode E b Q) = ap (λ X. low (view Coloured E b X)) y ∙ low_seen b (TFun P Q) l ∙ seen_fun E mode b P Q in
            (seen_fun E mode d P Q, l1, l2, (sym s ∙ g.0, g.1, g.2, g.3), q)
        by d f q _ y l i = absurd (true≢false (sym i))
    rebuilt_ok (KFun b _) c T k o w h = absurd (true≢false (sym (middle _ _ _ w)))

    all_rebuilt_ok : (vs : PValues) (c : Home) (Ts : Typs) → list_all (is_known E) (mentions_of_all Ts) ≡ true → IsHome mode E c → fit_values vs ≡ true → all_hold Coloured false E vs Ts ≡ true → ValuesTyped mode E (all_rebuilt mode E c Ts vs) c (all_seen E mode c Ts)
    all_rebuilt_ok no_pvalues c no_types k o w h = refl
    all_rebuilt_ok (pvalue v vs) c (typ T Ts) k o w h =
        let p = both_true (holds Coloured false E v T) (all_hold Coloured false E vs Ts) h in
        let f = both_true (fits_value v) (fit_values vs) w in
        (view mode E c T, all_seen E mode c Ts, refl, rebuilt_ok v c T (all_left (is_known E) (mentions T) (mentions_of_all Ts) k) o f.0 p.0, all_rebuilt_ok vs c Ts (all_right (is_known E) (mentions T) (mentions_of_all Ts) k) o f.1 p.1)
    all_rebuilt_ok _ c _ k o w h = absurd (true≢false (sym h))

    list_rebuilt_ok : (vs : PValues) (c : Home) (U : Typ) → are_known E U ≡ true → IsHome mode E c → fit_values vs ≡ true → each_holds Coloured false E vs U ≡ true → ValueTyped mode E (list_rebuilt mode E c (TList U) vs) c (TList (view mode E c U))
    list_rebuilt_ok no_pvalues c U k o w h = (view mode E c U, refl, sym (seen_list E mode c U), k)
    list_rebuilt_ok (pvalue v vs) c U k o w h =
        let p = both_true (holds Coloured false E v U) (each_holds Coloured false E vs U) h in
        let f = both_true (fits_value v) (fit_values vs) w in
        (view mode E c U, refl, rebuilt_ok v c U k o f.0 p.0, list_rebuilt_ok vs c U k o f.1 p.1)
