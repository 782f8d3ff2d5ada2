-- Each type in a typed term of the source is small.
use Rattle.std.proofs.Common.{◌≡◌, refl, sym, ap, ◌∙◌, subst, ℕ, zero, suc, ◌≤◌, Bool, true, false, ◌&&◌, List, [], ◌∷◌, ◌++◌, map, Option, Some}
use Rattle.std.specs.Prelude.{nat_le, slice_get, option_map, option_and_then}
use Rattle.std.specs.List.{list_all}
use Rattle.std.proofs.lemmas.Bool.Decides.{nat_tests}
use mathlib.Core.Bool.{true≢false}
use native.Mathlib.Omega.{arith}
use Rattle.ac_types.specs.Partial.{given, has}
use Rattle.ac_types.proofs.FirstLaws.{none≢some, some_eq, given_some}
use Rattle.ac_types.proofs.Same.{both_true, and_true}
use Rattle.ac_types.specs.Types.{Typ, TInt, TBool, TStr, TUnit, TExn, TTuple, TList, TOpt, TFun, Typs, no_types, typ, same, same_all, node_count, parts_of_all, height, height_of_all, is_small}
use Rattle.ac_terms.specs.Terms.{Home, Pattern, PWild, PVar, PInt, PBool, PStr, PUnit, PTuple, PNil, PCons, PAbsent, PPresent, PExn, PExnOf, Patterns, no_patterns, pattern', Expr, Int, Boolean, Str, Unit', Exn, ExnOf, Tuple, Nil, Empty, Present, Cons, Var, Own, Ref, Lam, Rec, App, Let, If, Seq, Match, Try, Raise, Prim, Marshal, Unmarshal, Val, Evaluated, Bracket, Exprs, no_exprs, expr, Arms, no_arms, arm}
use Rattle.ac_terms.specs.Defs.{Environment}
use Rattle.ac_terms.specs.PrimitiveTypes.{Rule, by_rules, primitives, primitive_type}
use Rattle.ac_terms.specs.Parts.{OfType, pattern_types, all_pattern_types, term_parts, all_term_parts, arm_parts}
use Rattle.ac_rules.specs.Views.{Coloured, view, opened_at_home, are_known}
use Rattle.ac_rules.specs.Typing.{Scope, bind, bind_all, HasType, type_of, type_seen, types_of, arm_types, variables, variables_of_all, field_type, ref_type, a_list, an_option, are_all, one_of, last_of}
use Rattle.ac_terms.proofs.AllLaws.{all_append}
use Rattle.ac_rules.proofs.Rules.{then_some, rule-Int, rule-Boolean, rule-Str, rule-Unit, rule-Exn, rule-ExnOf, rule-Tuple, rule-expr, rule-Nil, rule-Empty, rule-Present, rule-Cons, rule-Lam, rule-App, rule-If, rule-Let, rule-Rec, rule-Seq, rule-Match, rule-Try, rule-Raise, rule-Prim, rule-Marshal, rule-Unmarshal, has_some, joined_some, also_some}
use Rattle.ac_meaning.specs.Laws.{is_source, are_source, arms_are_source}
use Rattle.ac_meaning.proofs.WithinSources.{kept_small, small_seen}
use Rattle.ac_meaning.proofs.WithinSmall.{Small, both, first, each}

-- parts of a small type
abbrev pub AllSmall : Typs → Type 0
AllSmall no_types = Unit {0}
AllSmall (typ T Ts) = (is_small T ≡ true) × AllSmall Ts

record Bounded (T : Typ) : Type 0 where
  few : node_count T ≤ 4096
  low : height T ≤ 100

at_most : (n m : ℕ) → nat_le n m ≡ true → n ≤ m
at_most n m h = grind (arith, nat_tests)

is_at_most : (n m : ℕ) → n ≤ m → nat_le n m ≡ true
is_at_most n m h = grind (arith, nat_tests)

bounded : (T : Typ) → is_small T ≡ true → Bounded T
bounded T h = let p = both_true (nat_le (node_count T) 4096) (nat_le (height T) 100) h in record { few = at_most (node_count T) 4096 p.0; low = at_most (height T) 100 p.1 }

small : (T : Typ) → node_count T ≤ 4096 → height T ≤ 100 → is_small T ≡ true
small T p q = and_true {a = nat_le (node_count T) 4096} {b = nat_le (height T) 100} (is_at_most (node_count T) 4096 p) (is_at_most (height T) 100 q)

pub small_argument : (A B : Typ) → is_small (TFun A B) ≡ true → is_small A ≡ true
small_argument A B h = let b = bounded (TFun A B) h in let f = b.few in let l = b.low in small A (omega (arith, f)) (omega (arith, l))

pub small_result : (A B : Typ) → is_small (TFun A B) ≡ true → is_small B ≡ true
small_result A B h = let b = bounded (TFun A B) h in let f = b.few in let l = b.low in small B (omega (arith, f)) (omega (arith, l))

pub small_item : (A : Typ) → is_small (TList A) ≡ true → is_small A ≡ true
small_item A h = let b = bounded (TList A) h in let f = b.few in let l = b.low in small A (omega (arith, f)) (omega (arith, l))

pub small_option : (A : Typ) → is_small (TOpt A) ≡ true → is_small A ≡ true
small_option A h = let b = bounded (TOpt A) h in let f = b.few in let l = b.low in small A (omega (arith, f)) (omega (arith, l))

all_small : (Ts : Typs) → parts_of_all Ts ≤ 4096 → height_of_all Ts ≤ 100 → AllSmall Ts
all_small no_types p q = tt
all_small (typ T Ts) p q = (small T (omega (arith, p)) (omega (arith, q)), all_small Ts (omega (arith, p)) (omega (arith, q)))

pub small_tuple : (Ts : Typs) → is_small (TTuple Ts) ≡ true → AllSmall Ts
small_tuple Ts h = let b = bounded (TTuple Ts) h in let f = b.few in let l = b.low in all_small Ts (omega (arith, f)) (omega (arith, l))

-- the last of some types, and the one that all are
last_small : (Ts : Typs) (T : Typ) → last_of Ts ≡ Some T → AllSmall Ts → is_small T ≡ true
last_small no_types T h s = absurd (none≢some h)
last_small (typ U no_types) T h s = subst (λ X. is_small X ≡ true) (some_eq h) s.0
last_small (typ U (typ V Vs)) T h s = last_small (typ V Vs) T (given_some (same U TUnit) _ h).1 s.1

one_is_small : (Ts : Typs) (T : Typ) → one_of Ts ≡ Some T → AllSmall Ts → is_small T ≡ true
one_is_small no_types T h s = absurd (none≢some h)
one_is_small (typ U Us) T h s = subst (λ X. is_small X ≡ true) (some_eq (given_some (are_all U Us) (Some U) h).1) s.0

-- what a primitive gives
abbrev RuleSmall : List Rule → Type 0
RuleSmall [] = Unit {0}
RuleSmall (r ∷ rs) = (is_small r.1 ≡ true) × RuleSmall rs

abbrev EachSmall : List (List Rule) → Type 0
EachSmall [] = Unit {0}
EachSmall (rs ∷ rss) = RuleSmall rs × EachSmall rss

each_small : EachSmall primitives
each_small =
    let one : (is_small TInt ≡ true) × Unit {0} = (refl, tt) in
    let three : (is_small TBool ≡ true) × ((is_small TBool ≡ true) × ((is_small TBool ≡ true) × Unit {0})) = (refl, (refl, (refl, tt))) in
    (one, (one, (one, (one, (one, (one, (three, (three, ((refl, tt), ((refl, tt), ((refl, tt), ((refl, tt), ((refl, tt), ((refl, tt), ((refl, tt), ((refl, tt), ((refl, tt), tt)))))))))))))))))

rules_small : (rs : List Rule) → RuleSmall rs → (Ts : Typs) (T : Typ) → by_rules rs Ts ≡ Some T → is_small T ≡ true
rules_small [] s Ts T h = absurd (none≢some h)
rules_small (r ∷ rs) s Ts T h = by (rules_small rs s.1 Ts T) (same_all r.0 Ts) h
  where
    by : (by_rules rs Ts ≡ Some T → is_small T ≡ true) → (b : Bool) → elim b as (λ x. Option Typ) [ true ↦ Some r.1 | false ↦ by_rules rs Ts ] ≡ Some T → is_small T ≡ true
    by more true q = subst (λ X. is_small X ≡ true) (some_eq q) s.0
    by more false q = more q

rules_at : (rss : List (List Rule)) → EachSmall rss → (k : ℕ) (rs : List Rule) → slice_get rss k ≡ Some rs → RuleSmall rs
rules_at [] s k rs h = absurd (none≢some h)
rules_at (x ∷ rss) s zero rs h = subst RuleSmall (some_eq h) s.0
rules_at (x ∷ rss) s (suc k) rs h = rules_at rss s.1 k rs h

primitive_small : (k : ℕ) (Ts : Typs) (T : Typ) → primitive_type k Ts ≡ Some T → is_small T ≡ true
primitive_small k Ts T h =
    let p = then_some (λ rs. by_rules rs Ts) (slice_get primitives k) T h in
    rules_small p.0 (rules_at primitives each_small k p.0 p.1) Ts T p.2

a_list_is : (X T : Typ) → a_list X ≡ Some T → X ≡ T
a_list_is (TList B) T e = some_eq e
a_list_is _ T e = absurd (none≢some e)

an_option_is : (X T : Typ) → an_option X ≡ Some T → X ≡ T
an_option_is (TOpt B) T e = some_eq e
an_option_is _ T e = absurd (none≢some e)

module _ (E : Environment) where
  -- a type that a home sees as a small one
  written_small : (c : Home) (A X : Typ) → view Coloured E c A ≡ X → is_small X ≡ true → is_small A ≡ true
  written_small c A X e h = small_seen (opened_at_home E c) A (ap is_small e ∙ h)

  mutual
    pattern_small : (c : Home) (p : Pattern) (A : Typ) (Us : List Typ) → variables Coloured false E c p A ≡ Some Us → is_small A ≡ true → list_all is_small (pattern_types p) ≡ true
    pattern_small c PWild A Us h s = refl
    pattern_small c (PVar U) A Us h s =
        let p = given_some (has (type_seen Coloured false E c U) A) (Some (A ∷ [])) h in
        let q = given_some (are_known E U) (Some (view Coloured E c U)) (has_some (type_seen Coloured false E c U) A p.0) in
        and_true {a = is_small U} {b = true} (written_small c U A (some_eq q.1) s) refl
    pattern_small c (PInt n) A Us h s = refl
    pattern_small c (PBool b) A Us h s = refl
    pattern_small c (PStr x) A Us h s = refl
    pattern_small c PUnit A Us h s = refl
    pattern_small c (PTuple ps) (TTuple As) Us h s = all_patterns_small c ps As Us h (small_tuple As s)
    pattern_small c PNil A Us h s = refl
    pattern_small c (PCons p q) (TList B) Us h s =
        let j = joined_some _ _ Us h in
        all_append is_small (pattern_types p) (pattern_types q) (pattern_small c p B j.0 j.2 (small_item B s)) (pattern_small c q (TList B) j.1 j.3 s)
    pattern_small c PAbsent A Us h s = refl
    pattern_small c (PPresent p) (TOpt B) Us h s = pattern_small c p B Us h (small_option B s)
    pattern_small c (PExn k) A Us h s = refl
    pattern_small c (PExnOf k p) TExn Us h s = pattern_small c p TStr Us (given_some _ _ h).1 refl
    pattern_small c _ _ Us h s = absurd (none≢some h)

    all_patterns_small : (c : Home) (ps : Patterns) (As : Typs) (Us : List Typ) → variables_of_all Coloured false E c ps As ≡ Some Us → AllSmall As → list_all is_small (all_pattern_types ps) ≡ true
    all_patterns_small c no_patterns As Us h s = refl
    all_patterns_small c (pattern' p ps) (typ A As) Us h s =
        let j = joined_some _ _ Us h in
        all_append is_small (pattern_types p) (all_pattern_types ps) (pattern_small c p A j.0 j.2 s.0) (all_patterns_small c ps As j.1 j.3 s.1)
    all_patterns_small c _ _ Us h s = absurd (none≢some h)

  abbrev Fine : Scope → Expr → Typ → Type 0
  Fine S e T = (is_small T ≡ true) × Small (term_parts e)

  abbrev is : (X T : Typ) → X ≡ T → is_small X ≡ true → is_small T ≡ true
  is X T e h = subst (λ Y. is_small Y ≡ true) e h

  mutual
    pub typed_small : (e : Expr) (S : Scope) (T : Typ) → is_source e ≡ true → HasType Coloured E S e T → Fine S e T
    typed_small (Int n) S T s h = (is TInt T (rule-Int Coloured E S n T h) refl, refl)
    typed_small (Boolean b) S T s h = (is TBool T (rule-Boolean Coloured E S b T h) refl, refl)
    typed_small (Str x) S T s h = (is TStr T (rule-Str Coloured E S x T h) refl, refl)
    typed_small Unit' S T s h = (is TUnit T (rule-Unit Coloured E S T h) refl, refl)
    typed_small (Exn k) S T s h = (is TExn T (rule-Exn Coloured E S k T h).1 refl, refl)
    typed_small (ExnOf k e) S T s h = let t = rule-ExnOf Coloured E S k e T h in (is TExn T t.2 refl, (typed_small e S TStr s t.1).1)
    typed_small (Tuple es) S T s h = let t = rule-Tuple Coloured E S es T h in (kept_small (option_map TTuple (types_of Coloured false E S es)) T h, (all_typed_small es S t.0 s t.1).1)
    typed_small (Nil A) S T s h =
        let k = kept_small (option_and_then a_list (type_seen Coloured false E S.home A)) T h in
        (k, first A [] (written_small S.home A T (a_list_is (view Coloured E S.home A) T (rule-Nil Coloured E S A T h).1) k) refl)
    typed_small (Empty A) S T s h =
        let k = kept_small (option_and_then an_option (type_seen Coloured false E S.home A)) T h in
        (k, first A [] (written_small S.home A T (an_option_is (view Coloured E S.home A) T (rule-Empty Coloured E S A T h).1) k) refl)
    typed_small (Present e) S T s h = let t = rule-Present Coloured E S e T h in (kept_small (option_map TOpt (type_of Coloured false E S e)) T h, (typed_small e S t.0 s t.1).1)
    typed_small (Cons a b) S T s h =
        let w = both_true (is_source a) (is_source b) s in
        let t = rule-Cons Coloured E S a b T h in
        let y = typed_small b S T w.1 t.0 in
        (y.0, both (term_parts a) (term_parts b) (typed_small a S t.1.0 w.0 t.1.1).1 y.1)
    typed_small (Var i) S T s h = (kept_small (slice_get S.vars i) T h, refl)
    typed_small (Own f) S T s h = (kept_small (option_map (view Coloured E S.home) (field_type E S f)) T h, refl)
    typed_small (Ref j x) S T s h = (kept_small (option_map (view Coloured E S.home) (ref_type E S j x)) T h, refl)
    typed_small (Lam A e) S T s h =
        let t = rule-Lam Coloured E S A e T h in
        let V = view Coloured E S.home A in
        let p = then_some _ (type_seen Coloured false E S.home A) T h in
        let k = kept_small (option_map (TFun p.0) (type_of Coloured false E (bind p.0 S) e)) T p.2 in
        (k, first A (term_parts e) (written_small S.home A V refl (small_argument V t.1.0 (is T (TFun V t.1.0) (sym t.1.2) k))) (typed_small e (bind V S) t.1.0 s t.1.1).1)
    typed_small (Rec A B e) S T s h =
        let t = rule-Rec Coloured E S A B e T h in
        let V = view Coloured E S.home A in
        let W = view Coloured E S.home B in
        let p = then_some _ (type_seen Coloured false E S.home A) T h in
        let q = then_some _ (type_seen Coloured false E S.home B) T p.2 in
        let k = kept_small (given (has (type_of Coloured false E (bind p.0 (bind (TFun p.0 q.0) S)) e) q.0) (Some (TFun p.0 q.0))) T q.2 in
        let f = is T (TFun V W) (sym t.3) k in
        (k, first A (OfType B ∷ term_parts e) (written_small S.home A V refl (small_argument V W f)) (first B (term_parts e) (written_small S.home B W refl (small_result V W f)) (typed_small e (bind V (bind (TFun V W) S)) W s t.2).1))
    typed_small (App a b) S T s h =
        let w = both_true (is_source a) (is_source b) s in
        let t = rule-App Coloured E S a b T h in
        let x = typed_small a S (TFun t.0 T) w.0 t.1 in
        (small_result t.0 T x.0, both (term_parts a) (term_parts b) x.1 (typed_small b S t.0 w.1 t.2).1)
    typed_small (Let A a b) S T s h =
        let w = both_true (is_source a) (is_source b) s in
        let t = rule-Let Coloured E S A a b T h in
        let V = view Coloured E S.home A in
        let x = typed_small a S V w.0 t.1 in
        let y = typed_small b (bind V S) T w.1 t.2 in
        (y.0, first A (term_parts a ++ term_parts b) (written_small S.home A V refl x.0) (both (term_parts a) (term_parts b) x.1 y.1))
    typed_small (If a b c) S T s h =
        let w = both_true (is_source a) (is_source b && is_source c) s in
        let v = both_true (is_source b) (is_source c) w.1 in
        let t = rule-If Coloured E S a b c T h in
        let y = typed_small b S T v.0 t.1 in
        (y.0, both (term_parts a ++ term_parts b) (term_parts c) (both (term_parts a) (term_parts b) (typed_small a S TBool w.0 t.0).1 y.1) (typed_small c S T v.1 t.2).1)
    typed_small (Seq es) S T s h =
        let t = rule-Seq Coloured E S es T h in
        let x = all_typed_small es S t.0 s t.1 in
        (last_small t.0 T t.2 x.0, x.1)
    typed_small (Match e arms) S T s h =
        let w = both_true (is_source e) (arms_are_source arms) s in
        let t = rule-Match Coloured E S e arms T h in
        let x = typed_small e S t.0 w.0 t.1 in
        let y = arms_typed_small arms S t.0 t.2.0 w.1 t.2.1 x.0 in
        (one_is_small t.2.0 T t.2.2 y.0, both (term_parts e) (arm_parts arms) x.1 y.1)
    typed_small (Try e arms) S T s h =
        let w = both_true (is_source e) (arms_are_source arms) s in
        let t = rule-Try Coloured E S e arms T h in
        let x = typed_small e S T w.0 t.0 in
        (x.0, both (term_parts e) (arm_parts arms) x.1 (arms_typed_small arms S TExn t.1.0 w.1 t.1.1 refl).1)
    typed_small (Raise A e) S T s h =
        let t = rule-Raise Coloured E S A e T h in
        let k = kept_small (type_seen Coloured false E S.home A) T (given_some (has (type_of Coloured false E S e) TExn) _ h).1 in
        (k, first A (term_parts e) (written_small S.home A T t.2 k) (typed_small e S TExn s t.0).1)
    typed_small (Prim k es) S T s h = let t = rule-Prim Coloured E S k es T h in (primitive_small k t.0 T t.2, (all_typed_small es S t.0 s t.1).1)
    typed_small (Marshal A a b) S T s h =
        let w = both_true (is_source a) (is_source b) s in
        let t = rule-Marshal Coloured E S A a b T h in
        let V = view Coloured E S.home A in
        let y = typed_small b S V w.1 t.2 in
        (is TStr T t.3 refl, first A (term_parts a ++ term_parts b) (written_small S.home A V refl y.0) (both (term_parts a) (term_parts b) (typed_small a S TStr w.0 t.0).1 y.1))
    typed_small (Unmarshal A e) S T s h =
        let t = rule-Unmarshal Coloured E S A e T h in
        let k = kept_small (type_seen Coloured false E S.home A) T (given_some (has (type_of Coloured false E S e) TStr) _ h).1 in
        (k, first A (term_parts e) (written_small S.home A T t.2 k) (typed_small e S TStr s t.0).1)
    typed_small (Val A v) S T s h = absurd (true≢false (sym s))
    typed_small (Evaluated A v) S T s h = absurd (true≢false (sym s))
    typed_small (Bracket c A e) S T s h = absurd (true≢false (sym s))

    all_typed_small : (es : Exprs) (S : Scope) (Ts : Typs) → are_source es ≡ true → types_of Coloured false E S es ≡ Some Ts → AllSmall Ts × Small (all_term_parts es)
    all_typed_small no_exprs S Ts s h = (subst AllSmall (some_eq h) tt, refl)
    all_typed_small (expr e es) S Ts s h =
        let w = both_true (is_source e) (are_source es) s in
        let t = rule-expr Coloured E S e es Ts h in
        let x = typed_small e S t.0 w.0 t.2 in
        let y = all_typed_small es S t.1 w.1 t.3 in
        (subst AllSmall t.4 (x.0, y.0), both (term_parts e) (all_term_parts es) x.1 y.1)

    arms_typed_small : (arms : Arms) (S : Scope) (A : Typ) (Ts : Typs) → arms_are_source arms ≡ true → arm_types Coloured false E S A arms ≡ Some Ts → is_small A ≡ true → AllSmall Ts × Small (arm_parts arms)
    arms_typed_small no_arms S A Ts s h a = (subst AllSmall (some_eq h) tt, refl)
    arms_typed_small (arm p e rest) S A Ts s h a =
        let w = both_true (is_source e) (arms_are_source rest) s in
        let q = also_some _ _ Ts h in
        let v = then_some _ (variables Coloured false E S.home p A) q.0 q.2 in
        let x = typed_small e (bind_all v.0 S) q.0 w.0 v.2 in
        let y = arms_typed_small rest S A q.1 w.1 q.3 a in
        (subst AllSmall q.4 (x.0, y.0), both (map OfType (pattern_types p) ++ term_parts e) (arm_parts rest) (both (map OfType (pattern_types p)) (term_parts e) (each (pattern_types p) (pattern_small S.home p A v.0 v.1 a)) x.1) y.1)
