-- The types that are written are small: each where its count passes no limit, and the type of a `let rec` since its function has it.
use Rattle.std.proofs.Common.{◌≡◌, ◌∙◌, ◌≤◌, refl, ap, ap₂, subst, ℕ, Bool, true, false, List, [], ◌∷◌, ◌++◌, map, Option, Some, None, arith}
use Rattle.std.specs.Prelude.{nat_le, option_map, option_and_then, unwrap_or}
use Rattle.std.specs.List.{list_all}
use Rattle.std.specs.Option.{option_or}
use Rattle.std.proofs.lemmas.Bool.{le-leb, leb-true}
use Rattle.ac_types.specs.Limits.{widest_tuple, highest_type, most_type_parts, most_arms}
use Rattle.ac_types.specs.Partial.{given, has}
use Rattle.ac_types.proofs.FirstLaws.{none≢some, some_eq}
use Rattle.ac_types.proofs.Same.{both_true, and_true}
use Rattle.ac_types.specs.Types.{Bytes, Typ, TBool, TStr, TExn, TTuple, TList, TOpt, TFun, TAbs, Typs, no_types, typ, node_count, parts_of_all, height, height_of_all, is_small, with_each, all_with_each}
use Rattle.ac_terms.specs.Defs.{Environment, signature_at}
use Rattle.ac_terms.proofs.AllLaws.{all_append}
use Rattle.ac_types.specs.Sigs.{Signature, named_type}
use Rattle.ac_terms.specs.Terms.{Expr, expr, no_exprs, Boolean, Var, Own, Ref, Unit', Rec}
use Rattle.ac_terms.specs.Parts.{Portion, OfType, OfRef, OfHome, Captured, pattern_types, all_pattern_types, term_parts, all_term_parts, arm_parts}
use Rattle.ac_terms.specs.Bounds.{has_small_types}
use Rattle.ac_rules.specs.Views.{Coloured, view, opened_at_home, are_known}
use Rattle.ac_rules.specs.Typing.{Scope, bind, bind_all, kept_in, type_seen, type_of, types_of, arm_types, variables as pattern_variables, HasType}
use Rattle.ac_rules.proofs.Rules.{then_some, kept_some, also_some, rule-ExnOf, rule-Tuple, rule-expr, rule-Present, rule-Cons, rule-Lam, rule-App, rule-If, rule-Let, rule-Rec, rule-Seq, rule-Match, rule-Try, rule-Raise, rule-Prim, rule-Marshal, rule-Unmarshal}
use Rattle.ac_syntax.specs.Trees.{TypeTree, PatTree, PatWild, PatVar, PatInt, PatBool, PatStr, PatUnit, PatTuple, PatNil, PatCons, PatAbsent, PatPresent, PatExn, PatExnOf, PatTrees, no_pat_trees, pat_tree, Tree, ExInt, ExBool, ExStr, ExUnit, ExExn, ExExnOf, ExTuple, ExNil, ExAbsent, ExPresent, ExCons, ExVar, ExOf, ExFun, ExRec, ExApp, ExLet, ExLetRec, ExIf, ExSeq, ExMatch, ExTry, ExRaise, ExAnd, ExOr, ExOp, ExMarshal, ExUnmarshal, Trees, no_trees, tree, ArmTrees, no_arm_trees, arm_tree}
use Rattle.ac_resolve_scopes.specs.Standard.{NamedPrimitive, primitive_named}
use Rattle.ac_resolve_scopes.specs.Scopes.{NameScope, own_number, binders_to, before_dot, value_outside, primitive_function, dotted_value, with_variables}
use Rattle.ac_resolve_scopes.specs.Written.{type_in, pattern_in, patterns_in, in_function, in_arm, primitive_at, applied_tree, term_in, terms_in, arms_in}
use Rattle.ac_resolve_scopes.specs.Searches.{tree_count, arms_written, found, found_in_all, found_in_arms}
use Rattle.ac_resolve_scopes.specs.Counts.{over, pat_count, wide_type, large_type, large_pattern, large_patterns, large}
use Rattle.ac_load_rules.proofs.Distinct.{least_none}
use Rattle.ac_load_rules.proofs.FineTypes.{within}
use Rattle.ac_load_rules.proofs.FineTerms.{is_primitive}

-- what a type is replaced by has a part at least, and a height
mutual
  some_parts : (T : Typ) → 1 ≤ node_count T
  some_parts (TTuple Ts) = omega arith
  some_parts (TList T) = omega arith
  some_parts (TOpt T) = omega arith
  some_parts (TFun T U) = omega arith
  some_parts _ = omega arith

some_height : (T : Typ) → 1 ≤ height T
some_height (TTuple Ts) = omega arith
some_height (TList T) = omega arith
some_height (TOpt T) = omega arith
some_height (TFun T U) = omega arith
some_height _ = omega arith

-- so a type has no more parts and no more height than its view
mutual
  fewer_parts : (f : Bytes → Bytes → Typ) (T : Typ) → node_count T ≤ node_count (with_each f T)
  fewer_parts f (TTuple Ts) = let h = all_fewer f Ts in omega (arith, h)
  fewer_parts f (TList T) = let h = fewer_parts f T in omega (arith, h)
  fewer_parts f (TOpt T) = let h = fewer_parts f T in omega (arith, h)
  fewer_parts f (TFun T U) = let h = fewer_parts f T in let k = fewer_parts f U in omega (arith, h, k)
  fewer_parts f (TAbs n t) = some_parts (f n t)
  fewer_parts f _ = omega arith

  all_fewer : (f : Bytes → Bytes → Typ) (Ts : Typs) → parts_of_all Ts ≤ parts_of_all (all_with_each f Ts)
  all_fewer f no_types = omega arith
  all_fewer f (typ T Ts) = let h = fewer_parts f T in let k = all_fewer f Ts in omega (arith, h, k)

mutual
  lower_height : (f : Bytes → Bytes → Typ) (T : Typ) → height T ≤ height (with_each f T)
  lower_height f (TTuple Ts) = let h = all_lower f Ts in omega (arith, h)
  lower_height f (TList T) = let h = lower_height f T in omega (arith, h)
  lower_height f (TOpt T) = let h = lower_height f T in omega (arith, h)
  lower_height f (TFun T U) = let h = lower_height f T in let k = lower_height f U in omega (arith, h, k)
  lower_height f (TAbs n t) = some_height (f n t)
  lower_height f _ = omega arith

  all_lower : (f : Bytes → Bytes → Typ) (Ts : Typs) → height_of_all Ts ≤ height_of_all (all_with_each f Ts)
  all_lower f no_types = omega arith
  all_lower f (typ T Ts) = let h = lower_height f T in let k = all_lower f Ts in omega (arith, h, k)

small_before : (f : Bytes → Bytes → Typ) (T : Typ) → is_small (with_each f T) ≡ true → is_small T ≡ true
small_before f T h =
    let r = both_true (nat_le (node_count (with_each f T)) 4096) _ h in
    let p = leb-true (node_count (with_each f T)) 4096 r.0 in
    let q = leb-true (height (with_each f T)) 100 r.1 in
    let a = fewer_parts f T in
    let b = lower_height f T in
    and_true (le-leb (node_count T) 4096 (omega (arith, p, a))) (le-leb (height T) 100 (omega (arith, q, b)))

kept_small : (o : Option Typ) (T : Typ) → kept_in Coloured o ≡ Some T → is_small T ≡ true
kept_small None T h = absurd (none≢some h)
kept_small (Some U) T h = on (is_small U) refl h where
  on : (b : Bool) → is_small U ≡ b → given b (Some U) ≡ Some T → is_small T ≡ true
  on true is e = subst (λ V. is_small V ≡ true) (some_eq e) is
  on false is e = absurd (none≢some e)

given_some : {A : Type 0} (b : Bool) (o : Option A) (a : A) → given b o ≡ Some a → o ≡ Some a
given_some true o a h = h
given_some false o a h = absurd (none≢some h)

-- the type of a recursive function is small, before it is viewed too
arrow_small : (E : Environment) (Γ : Scope) (A B : Typ) (e : Expr) (T : Typ) → HasType Coloured E Γ (Rec A B e) T → is_small (TFun A B) ≡ true
arrow_small E Γ A B e T h =
    let p = then_some (λ X. option_and_then (λ Y. kept_in Coloured (given (has (type_of Coloured false E (bind X (bind (TFun X Y) Γ)) e) Y) (Some (TFun X Y)))) (type_seen Coloured false E Γ.home B)) (type_seen Coloured false E Γ.home A) T h in
    let q = then_some (λ Y. kept_in Coloured (given (has (type_of Coloured false E (bind p.0 (bind (TFun p.0 Y) Γ)) e) Y) (Some (TFun p.0 Y)))) (type_seen Coloured false E Γ.home B) T p.2 in
    let small = kept_small (given (has (type_of Coloured false E (bind p.0 (bind (TFun p.0 q.0) Γ)) e) q.0) (Some (TFun p.0 q.0))) T q.2 in
    let is : TFun p.0 q.0 ≡ T = some_eq (given_some (has (type_of Coloured false E (bind p.0 (bind (TFun p.0 q.0) Γ)) e) q.0) (Some (TFun p.0 q.0)) T (kept_some Coloured (given (has (type_of Coloured false E (bind p.0 (bind (TFun p.0 q.0) Γ)) e) q.0) (Some (TFun p.0 q.0))) T q.2)) in
    let a : view Coloured E Γ.home A ≡ p.0 = some_eq (given_some (are_known E A) (Some (view Coloured E Γ.home A)) p.0 p.1) in
    let b : view Coloured E Γ.home B ≡ q.0 = some_eq (given_some (are_known E B) (Some (view Coloured E Γ.home B)) q.0 q.1) in
    small_before (opened_at_home E Γ.home) (TFun A B) (ap is_small (ap₂ TFun a b ∙ is) ∙ small)

-- a part of a term whose type is small, if it is one
abbrev pub is_small_part : Portion → Bool
is_small_part (OfType T) = is_small T
is_small_part (OfRef j x) = true
is_small_part (OfHome h) = true
is_small_part Captured = true

pub parts_small : (ps : List Portion) → list_all is_small_part ps ≡ true → has_small_types ps ≡ true
parts_small [] h = refl
parts_small (OfType T ∷ ps) h = let r = both_true (is_small T) _ h in and_true r.0 (parts_small ps r.1)
parts_small (OfRef j x ∷ ps) h = parts_small ps h
parts_small (OfHome c ∷ ps) h = parts_small ps h
parts_small (Captured ∷ ps) h = parts_small ps h

-- a type where it is written
pub written_small : (S : NameScope) (t : TypeTree) → large_type S t ≡ None → is_small (type_in S t) ≡ true
written_small S t h =
    let r = least_none (wide_type t) _ h in
    let q = least_none (over highest_type (height (type_in S t))) (over most_type_parts (node_count (type_in S t))) r.1 in
    and_true (le-leb (node_count (type_in S t)) 4096 (within most_type_parts (node_count (type_in S t)) q.1)) (le-leb (height (type_in S t)) 100 (within highest_type (height (type_in S t)) q.0))

abbrev pub Small : List Portion → Type 0
Small ps = list_all is_small_part ps ≡ true

join : (ps qs : List Portion) → Small ps → Small qs → Small (ps ++ qs)
join ps qs h k = all_append is_small_part ps qs h k

three : (ps qs rs : List Portion) → Small ps → Small qs → Small rs → Small (ps ++ qs ++ rs)
three ps qs rs h k l = join (ps ++ qs) rs (join ps qs h k) l

mapped_append : (Ts Us : List Typ) → Small (map OfType Ts) → Small (map OfType Us) → Small (map OfType (Ts ++ Us))
mapped_append [] Us h k = k
mapped_append (T ∷ Ts) Us h k = let r = both_true (is_small T) _ h in and_true r.0 (mapped_append Ts Us r.1 k)

mutual
  pattern_small : (S : NameScope) (p : PatTree) → large_pattern S p ≡ None → Small (map OfType (pattern_types (pattern_in S p)))
  pattern_small S (PatVar at name ty) n = and_true (written_small S ty n) refl
  pattern_small S (PatTuple at parts) n = patterns_small S parts (least_none (over widest_tuple (pat_count parts)) (large_patterns S parts) n).1
  pattern_small S (PatCons at head tail) n =
      let w = least_none (large_pattern S head) (large_pattern S tail) n in
      mapped_append (pattern_types (pattern_in S head)) (pattern_types (pattern_in S tail)) (pattern_small S head w.0) (pattern_small S tail w.1)
  pattern_small S (PatPresent at item) n = pattern_small S item n
  pattern_small S (PatExnOf at k item) n = pattern_small S item n
  pattern_small S (PatInt at k) n = refl
  pattern_small S (PatStr at text) n = refl
  pattern_small S (PatExn at k) n = refl
  pattern_small S (PatWild at) n = refl
  pattern_small S (PatBool at b) n = refl
  pattern_small S (PatUnit at) n = refl
  pattern_small S (PatNil at) n = refl
  pattern_small S (PatAbsent at) n = refl

  patterns_small : (S : NameScope) (ps : PatTrees) → large_patterns S ps ≡ None → Small (map OfType (all_pattern_types (patterns_in S ps)))
  patterns_small S no_pat_trees n = refl
  patterns_small S (pat_tree p ps) n =
      let w = least_none (large_pattern S p) (large_patterns S ps) n in
      mapped_append (pattern_types (pattern_in S p)) (all_pattern_types (patterns_in S ps)) (pattern_small S p w.0) (patterns_small S ps w.1)

module _ (E : Environment) where
  abbrev Typed : Scope → Expr → Typ → Type 0
  Typed Γ e T = HasType Coloured E Γ e T

  -- what a name means speaks of no type, or of a primitive's argument
  plain_small : (S : NameScope) (i f : Option ℕ) → Small (term_parts (unwrap_or (option_or (option_map Var i) (option_map Own f)) (Var 0)))
  plain_small S (Some i) f = refl
  plain_small S None (Some f) = refl
  plain_small S None None = refl

  value_small : (S : NameScope) (x : Bytes) (o : Option ℕ) → Small (term_parts (unwrap_or (option_and_then (value_outside S.entries x) o) Unit'))
  value_small S x None = refl
  value_small S x (Some j) = on (signature_at S.entries j) where
    by : (T : Option Typ) → Small (term_parts (unwrap_or (option_map (λ (T : Typ). Ref j x) T) Unit'))
    by None = refl
    by (Some T) = refl

    on : (s : Option Signature) → Small (term_parts (unwrap_or (option_and_then (λ (s : Signature). option_map (λ (T : Typ). Ref j x) (named_type x s.vals)) s) Unit'))
    on None = refl
    on (Some s) = by (named_type x s.vals)

  dotted_small : (S : NameScope) (m x : Bytes) → Small (term_parts (unwrap_or (dotted_value S m x) Unit'))
  dotted_small S m x = on (primitive_named m x) refl where
    on : (o : Option NamedPrimitive) → primitive_named m x ≡ o → Small (term_parts (unwrap_or (option_or (option_map primitive_function o) (option_and_then (value_outside S.entries x) (before_dot S m))) Unit'))
    on None is = value_small S x (before_dot S m)
    on (Some p) is = and_true (is_primitive m x p is).small refl

  -- an application
  applied_small : (o : Option NamedPrimitive) (Γ : Scope) (f a : Expr) (T : Typ) → Typed Γ (applied_tree o f a) T → ((U : Typ) → Typed Γ f U → Small (term_parts f)) → ((U : Typ) → Typed Γ a U → Small (term_parts a)) → Small (term_parts (applied_tree o f a))
  applied_small None Γ f a T h small_f small_a =
      let r = rule-App Coloured E Γ f a T h in
      join (term_parts f) (term_parts a) (small_f (TFun r.0 T) r.1) (small_a r.0 r.2)
  applied_small (Some p) Γ f a T h small_f small_a =
      let r = rule-Prim Coloured E Γ p.number (expr a no_exprs) T h in
      let q = rule-expr Coloured E Γ a no_exprs r.0 r.1 in
      join (term_parts a) [] (small_a q.0 q.2) refl

  mutual
    pub tree_small : (S : NameScope) (e : Tree) → found large S e ≡ None → (Γ : Scope) (T : Typ) → Typed Γ (term_in S e) T → Small (term_parts (term_in S e))
    tree_small S (ExInt at k) n Γ T h = refl
    tree_small S (ExBool at b) n Γ T h = refl
    tree_small S (ExStr at text) n Γ T h = refl
    tree_small S (ExUnit at) n Γ T h = refl
    tree_small S (ExExn at k) n Γ T h = refl
    tree_small S (ExExnOf at k a) n Γ T h = let r = rule-ExnOf Coloured E Γ k (term_in S a) T h in tree_small S a n Γ TStr r.1
    tree_small S (ExTuple at ps) n Γ T h =
        let r = rule-Tuple Coloured E Γ (terms_in S ps) T h in
        trees_small S ps (least_none (over widest_tuple (tree_count ps)) (found_in_all large S ps) n).1 Γ r.0 r.1
    tree_small S (ExNil at A) n Γ T h = and_true (written_small S A (least_none (large_type S A) _ n).0) refl
    tree_small S (ExAbsent at A) n Γ T h = and_true (written_small S A (least_none (large_type S A) _ n).0) refl
    tree_small S (ExPresent at a) n Γ T h = let r = rule-Present Coloured E Γ (term_in S a) T h in tree_small S a n Γ r.0 r.1
    tree_small S (ExCons at a b) n Γ T h =
        let w = least_none (found large S a) (found large S b) n in
        let r = rule-Cons Coloured E Γ (term_in S a) (term_in S b) T h in
        join (term_parts (term_in S a)) (term_parts (term_in S b)) (tree_small S a w.0 Γ r.1.0 r.1.1) (tree_small S b w.1 Γ T r.0)
    tree_small S (ExVar at x) n Γ T h = plain_small S (binders_to x S.variables) (own_number x S.fields)
    tree_small S (ExOf at m x) n Γ T h = dotted_small S m.word x.word
    tree_small S (ExFun at x A b) n Γ T h =
        let w = least_none (large_type S A) _ n in
        let r = rule-Lam Coloured E Γ (type_in S A) (term_in (with_variables (x ∷ []) S) b) T h in
        and_true (written_small S A w.0) (tree_small (with_variables (x ∷ []) S) b w.1 (bind (view Coloured E Γ.home (type_in S A)) Γ) r.1.0 r.1.1)
    tree_small S (ExRec at f x A B b) n Γ T h =
        let w = least_none (large_type S A) _ n in
        let v = least_none (large_type S B) _ w.1 in
        let r = rule-Rec Coloured E Γ (type_in S A) (type_in S B) (term_in (in_function f x S) b) T h in
        and_true (written_small S A w.0) (and_true (written_small S B v.0) (tree_small (in_function f x S) b v.1 (bind (view Coloured E Γ.home (type_in S A)) (bind (TFun (view Coloured E Γ.home (type_in S A)) (view Coloured E Γ.home (type_in S B))) Γ)) (view Coloured E Γ.home (type_in S B)) r.2))
    tree_small S (ExApp at f a) n Γ T h =
        let w = least_none (found large S f) (found large S a) n in
        applied_small (primitive_at f) Γ (term_in S f) (term_in S a) T h (tree_small S f w.0 Γ) (tree_small S a w.1 Γ)
    tree_small S (ExLet at x A a b) n Γ T h =
        let w = least_none (large_type S A) _ n in
        let v = least_none (found large S a) _ w.1 in
        let r = rule-Let Coloured E Γ (type_in S A) (term_in S a) (term_in (with_variables (x ∷ []) S) b) T h in
        and_true (written_small S A w.0) (join (term_parts (term_in S a)) (term_parts (term_in (with_variables (x ∷ []) S) b)) (tree_small S a v.0 Γ (view Coloured E Γ.home (type_in S A)) r.1) (tree_small (with_variables (x ∷ []) S) b v.1 (bind (view Coloured E Γ.home (type_in S A)) Γ) T r.2))
    tree_small S (ExLetRec at f x A B a b) n Γ T h =
        let w = least_none (large_type S A) _ n in
        let v = least_none (large_type S B) _ w.1 in
        let m = least_none (found large (in_function f x S) a) _ v.1 in
        let U = type_in S A in
        let V = type_in S B in
        let body = term_in (in_function f x S) a in
        let rest = term_in (with_variables (f ∷ []) S) b in
        let r = rule-Let Coloured E Γ (TFun U V) (Rec U V body) rest T h in
        let q = rule-Rec Coloured E Γ U V body (view Coloured E Γ.home (TFun U V)) r.1 in
        and_true (arrow_small E Γ U V body (view Coloured E Γ.home (TFun U V)) r.1)
        (join (OfType U ∷ OfType V ∷ term_parts body) (term_parts rest)
        (and_true (written_small S A w.0) (and_true (written_small S B v.0) (tree_small (in_function f x S) a m.0 (bind (view Coloured E Γ.home U) (bind (TFun (view Coloured E Γ.home U) (view Coloured E Γ.home V)) Γ)) (view Coloured E Γ.home V) q.2)))
        (tree_small (with_variables (f ∷ []) S) b m.1 (bind (view Coloured E Γ.home (TFun U V)) Γ) T r.2))
    tree_small S (ExIf at c a b) n Γ T h =
        let w = least_none (found large S c) _ n in
        let v = least_none (found large S a) (found large S b) w.1 in
        let r = rule-If Coloured E Γ (term_in S c) (term_in S a) (term_in S b) T h in
        three (term_parts (term_in S c)) (term_parts (term_in S a)) (term_parts (term_in S b)) (tree_small S c w.0 Γ TBool r.0) (tree_small S a v.0 Γ T r.1) (tree_small S b v.1 Γ T r.2)
    tree_small S (ExSeq at ps) n Γ T h = let r = rule-Seq Coloured E Γ (terms_in S ps) T h in trees_small S ps n Γ r.0 r.1
    tree_small S (ExMatch at a arms) n Γ T h =
        let w = least_none (over most_arms (arms_written arms)) _ n in
        let v = least_none (found large S a) (found_in_arms large S arms) w.1 in
        let r = rule-Match Coloured E Γ (term_in S a) (arms_in S arms) T h in
        join (term_parts (term_in S a)) (arm_parts (arms_in S arms)) (tree_small S a v.0 Γ r.0 r.1) (arms_small S arms v.1 Γ r.0 r.2.0 r.2.1)
    tree_small S (ExTry at a arms) n Γ T h =
        let w = least_none (over most_arms (arms_written arms)) _ n in
        let v = least_none (found large S a) (found_in_arms large S arms) w.1 in
        let r = rule-Try Coloured E Γ (term_in S a) (arms_in S arms) T h in
        join (term_parts (term_in S a)) (arm_parts (arms_in S arms)) (tree_small S a v.0 Γ T r.0) (arms_small S arms v.1 Γ TExn r.1.0 r.1.1)
    tree_small S (ExRaise at a A) n Γ T h =
        let w = least_none (large_type S A) _ n in
        let r = rule-Raise Coloured E Γ (type_in S A) (term_in S a) T h in
        and_true (written_small S A w.0) (tree_small S a w.1 Γ TExn r.0)
    tree_small S (ExAnd at a b) n Γ T h =
        let w = least_none (found large S a) (found large S b) n in
        let r = rule-If Coloured E Γ (term_in S a) (term_in S b) (Boolean false) T h in
        three (term_parts (term_in S a)) (term_parts (term_in S b)) [] (tree_small S a w.0 Γ TBool r.0) (tree_small S b w.1 Γ T r.1) refl
    tree_small S (ExOr at a b) n Γ T h =
        let w = least_none (found large S a) (found large S b) n in
        let r = rule-If Coloured E Γ (term_in S a) (Boolean true) (term_in S b) T h in
        three (term_parts (term_in S a)) [] (term_parts (term_in S b)) (tree_small S a w.0 Γ TBool r.0) refl (tree_small S b w.1 Γ T r.2)
    tree_small S (ExOp at k ps) n Γ T h = let r = rule-Prim Coloured E Γ k (terms_in S ps) T h in trees_small S ps n Γ r.0 r.1
    tree_small S (ExMarshal at a b A) n Γ T h =
        let w = least_none (large_type S A) _ n in
        let v = least_none (found large S a) (found large S b) w.1 in
        let r = rule-Marshal Coloured E Γ (type_in S A) (term_in S a) (term_in S b) T h in
        and_true (written_small S A w.0) (join (term_parts (term_in S a)) (term_parts (term_in S b)) (tree_small S a v.0 Γ TStr r.0) (tree_small S b v.1 Γ (view Coloured E Γ.home (type_in S A)) r.2))
    tree_small S (ExUnmarshal at a A) n Γ T h =
        let w = least_none (large_type S A) _ n in
        let r = rule-Unmarshal Coloured E Γ (type_in S A) (term_in S a) T h in
        and_true (written_small S A w.0) (tree_small S a w.1 Γ TStr r.0)

    trees_small : (S : NameScope) (es : Trees) → found_in_all large S es ≡ None → (Γ : Scope) (Ts : Typs) → types_of Coloured false E Γ (terms_in S es) ≡ Some Ts → Small (all_term_parts (terms_in S es))
    trees_small S no_trees n Γ Ts h = refl
    trees_small S (tree e es) n Γ Ts h =
        let w = least_none (found large S e) (found_in_all large S es) n in
        let r = rule-expr Coloured E Γ (term_in S e) (terms_in S es) Ts h in
        join (term_parts (term_in S e)) (all_term_parts (terms_in S es)) (tree_small S e w.0 Γ r.0 r.2) (trees_small S es w.1 Γ r.1 r.3)

    arms_small : (S : NameScope) (arms : ArmTrees) → found_in_arms large S arms ≡ None → (Γ : Scope) (A : Typ) (Ts : Typs) → arm_types Coloured false E Γ A (arms_in S arms) ≡ Some Ts → Small (arm_parts (arms_in S arms))
    arms_small S no_arm_trees n Γ A Ts h = refl
    arms_small S (arm_tree p b arms) n Γ A Ts h =
        let w = least_none (large_pattern S p) _ n in
        let v = least_none (found large (in_arm p S) b) (found_in_arms large S arms) w.1 in
        let body = term_in (in_arm p S) b in
        let r = also_some (option_and_then (λ Us. type_of Coloured false E (bind_all Us Γ) body) (pattern_variables Coloured false E Γ.home (pattern_in S p) A)) (arm_types Coloured false E Γ A (arms_in S arms)) Ts h in
        let q = then_some (λ Us. type_of Coloured false E (bind_all Us Γ) body) (pattern_variables Coloured false E Γ.home (pattern_in S p) A) r.0 r.2 in
        three (map OfType (pattern_types (pattern_in S p))) (term_parts body) (arm_parts (arms_in S arms)) (pattern_small S p w.0) (tree_small (in_arm p S) b v.0 (bind_all q.0 Γ) r.0 q.2) (arms_small S arms v.1 Γ A r.1 r.3)
