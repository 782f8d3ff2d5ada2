-- The heads of a value nest no further than the value does.
use Rattle.std.proofs.Common.{◌≡◌, refl, sym, ℕ, suc, ◌+◌, ◌≤◌, Bool, true, false, ◌&&◌, List, [], ◌∷◌, ◌++◌}
use Rattle.std.specs.Prelude.{nat_le}
use Rattle.std.proofs.lemmas.Bool.Decides.{nat_tests}
use native.Mathlib.Omega.{arith}
use Rattle.ac_types.proofs.Same.{both_true, and_true}
use Rattle.ac_types.specs.Types.{Bytes, Typ}
use Rattle.ac_terms.specs.Terms.{Pattern, PWild, PVar, PInt, PBool, PStr, PUnit, PTuple, PNil, PCons, PAbsent, PPresent, PExn, PExnOf, Patterns, no_patterns, pattern', Expr, Int, Boolean, Str, Unit', Exn, ExnOf, Tuple, Nil, Empty, Present, Cons, Var, Own, Ref, Lam, Rec, App, Let, If, Seq, Match, Try, Raise, Prim, Marshal, Unmarshal, Val, Evaluated, Bracket, Exprs, no_exprs, expr, Arms, no_arms, arm, PValue, KInt, KBool, KStr, KUnit, KExn, KTuple, KList, KAbsent, KPresent, KFun, PValues, no_pvalues, pvalue}
use Rattle.ac_terms.specs.Spelling.{two_written, arm_count}
use Rattle.ac_terms.specs.Nesting.{pattern_nesting, pattern_depth, nesting, depth, arm_depth, value_nesting, value_depth}
use Rattle.ac_terms.specs.Heads.{Head, before, type_heads, pattern_heads, all_pattern_heads, term_heads, all_term_heads, arm_heads, value_heads, all_value_heads, packed_heads}
use Rattle.ac_terms.proofs.HeadLaws.{nest_to, value_deep}

le_is : (n m : ℕ) → n ≤ m → nat_le n m ≡ true
le_is n m h = grind (arith, nat_tests)

le_true : (n m : ℕ) → nat_le n m ≡ true → n ≤ m
le_true n m e = grind (arith, nat_tests)

-- heads behind others
behind : (k : ℕ) (hs ks : List Head) → nest_to k hs ≡ true → nest_to k ks ≡ true → nest_to k (hs ++ ks) ≡ true
behind k [] ks a b = b
behind k (h ∷ hs) ks a b =
    let c = both_true (nat_le h.nesting k) (nest_to k hs) a in
    and_true {a = nat_le h.nesting k} {b = nest_to k (hs ++ ks)} c.0 (behind k hs ks c.1 b)

counted : (k : ℕ) (bs : Bytes) (hs : List Head) → nest_to k hs ≡ true → nest_to k (before bs hs) ≡ true
counted k bs [] e = and_true {a = nat_le 0 k} {b = true} (le_is 0 k (omega arith)) refl
counted k bs (h ∷ hs) e = e

typed : (k : ℕ) (T : Typ) → nest_to k (type_heads T) ≡ true
typed k T = and_true {a = nat_le 0 k} {b = true} (le_is 0 k (omega arith)) refl

-- a head nested d, and what follows it
first : (d k : ℕ) (hs : List Head) → suc d ≤ suc k → nest_to k hs ≡ true → (nat_le d k && nest_to k hs) ≡ true
first d k hs l e = and_true {a = nat_le d k} {b = nest_to k hs} (le_is d k (omega (arith, l))) e

mutual
  pattern_low : (d k : ℕ) (p : Pattern) → d + pattern_nesting p ≤ suc k → nest_to k (pattern_heads d p) ≡ true
  pattern_low d k (PVar T) l = first d k (type_heads T) (omega (arith, l)) (typed k T)
  pattern_low d k (PTuple ps) l = first d k (all_pattern_heads (suc d) ps) (omega (arith, l)) (patterns_low (suc d) k ps (omega (arith, l)))
  pattern_low d k (PCons p q) l =
      first d k (pattern_heads (suc d) p ++ pattern_heads (suc d) q) (omega (arith, l))
      (behind k (pattern_heads (suc d) p) (pattern_heads (suc d) q) (pattern_low (suc d) k p (omega (arith, l))) (pattern_low (suc d) k q (omega (arith, l))))
  pattern_low d k (PPresent p) l = first d k (pattern_heads (suc d) p) (omega (arith, l)) (pattern_low (suc d) k p (omega (arith, l)))
  pattern_low d k (PExnOf n p) l = first d k (pattern_heads (suc d) p) (omega (arith, l)) (pattern_low (suc d) k p (omega (arith, l)))
  pattern_low d k PWild l = first d k [] (omega (arith, l)) refl
  pattern_low d k (PInt n) l = first d k [] (omega (arith, l)) refl
  pattern_low d k (PBool b) l = first d k [] (omega (arith, l)) refl
  pattern_low d k (PStr s) l = first d k [] (omega (arith, l)) refl
  pattern_low d k PUnit l = first d k [] (omega (arith, l)) refl
  pattern_low d k PNil l = first d k [] (omega (arith, l)) refl
  pattern_low d k PAbsent l = first d k [] (omega (arith, l)) refl
  pattern_low d k (PExn n) l = first d k [] (omega (arith, l)) refl

  patterns_low : (d k : ℕ) (ps : Patterns) → d + pattern_depth ps ≤ suc k → nest_to k (all_pattern_heads d ps) ≡ true
  patterns_low d k no_patterns l = refl
  patterns_low d k (pattern' p ps) l = behind k (pattern_heads d p) (all_pattern_heads d ps) (pattern_low d k p (omega (arith, l))) (patterns_low d k ps (omega (arith, l)))

module _ (ref : ℕ → Bytes) (k : ℕ) where
  abbrev th : ℕ → Expr → List Head
  th d e = term_heads ref d e

  mutual
    term_low : (d : ℕ) (e : Expr) → d + nesting e ≤ suc k → nest_to k (term_heads ref d e) ≡ true
    term_low d (ExnOf n e) l =
        first d k (th (suc d) e) (omega (arith, l))
        (term_low (suc d) e (omega (arith, l)))
    term_low d (Tuple es) l =
        first d k (all_term_heads ref (suc d) es) (omega (arith, l))
        (terms_low (suc d) es (omega (arith, l)))
    term_low d (Present e) l =
        first d k (th (suc d) e) (omega (arith, l))
        (term_low (suc d) e (omega (arith, l)))
    term_low d (Cons f e) l =
        first d k (th (suc d) f ++ th (suc d) e) (omega (arith, l))
        (behind k (th (suc d) f) (th (suc d) e) (term_low (suc d) f (omega (arith, l))) (term_low (suc d) e (omega (arith, l))))
    term_low d (Lam T e) l =
        first d k (type_heads T ++ th (suc d) e) (omega (arith, l))
        (behind k (type_heads T) (th (suc d) e) (typed k T) (term_low (suc d) e (omega (arith, l))))
    term_low d (Rec T U e) l =
        first d k (type_heads T ++ type_heads U ++ th (suc d) e) (omega (arith, l))
        (behind k (type_heads T ++ type_heads U) (th (suc d) e) (behind k (type_heads T) (type_heads U) (typed k T) (typed k U)) (term_low (suc d) e (omega (arith, l))))
    term_low d (App f e) l =
        first d k (th (suc d) f ++ th (suc d) e) (omega (arith, l))
        (behind k (th (suc d) f) (th (suc d) e) (term_low (suc d) f (omega (arith, l))) (term_low (suc d) e (omega (arith, l))))
    term_low d (Let T f e) l =
        first d k (type_heads T ++ th (suc d) f ++ th (suc d) e) (omega (arith, l))
        (behind k (type_heads T ++ th (suc d) f) (th (suc d) e) (behind k (type_heads T) (th (suc d) f) (typed k T) (term_low (suc d) f (omega (arith, l)))) (term_low (suc d) e (omega (arith, l))))
    term_low d (If c f e) l =
        first d k (th (suc d) c ++ th (suc d) f ++ th (suc d) e) (omega (arith, l))
        (behind k (th (suc d) c ++ th (suc d) f) (th (suc d) e) (behind k (th (suc d) c) (th (suc d) f) (term_low (suc d) c (omega (arith, l))) (term_low (suc d) f (omega (arith, l)))) (term_low (suc d) e (omega (arith, l))))
    term_low d (Seq es) l =
        first d k (all_term_heads ref (suc d) es) (omega (arith, l))
        (terms_low (suc d) es (omega (arith, l)))
    term_low d (Match e arms) l =
        first d k (th (suc d) e ++ before (two_written (arm_count arms)) (arm_heads ref (suc d) arms)) (omega (arith, l))
        (behind k (th (suc d) e) (before (two_written (arm_count arms)) (arm_heads ref (suc d) arms)) (term_low (suc d) e (omega (arith, l))) (counted k (two_written (arm_count arms)) (arm_heads ref (suc d) arms) (arms_low (suc d) arms (omega (arith, l)))))
    term_low d (Try e arms) l =
        first d k (th (suc d) e ++ before (two_written (arm_count arms)) (arm_heads ref (suc d) arms)) (omega (arith, l))
        (behind k (th (suc d) e) (before (two_written (arm_count arms)) (arm_heads ref (suc d) arms)) (term_low (suc d) e (omega (arith, l))) (counted k (two_written (arm_count arms)) (arm_heads ref (suc d) arms) (arms_low (suc d) arms (omega (arith, l)))))
    term_low d (Raise T e) l =
        first d k (type_heads T ++ th (suc d) e) (omega (arith, l))
        (behind k (type_heads T) (th (suc d) e) (typed k T) (term_low (suc d) e (omega (arith, l))))
    term_low d (Prim n es) l =
        first d k (all_term_heads ref (suc d) es) (omega (arith, l))
        (terms_low (suc d) es (omega (arith, l)))
    term_low d (Marshal T f e) l =
        first d k (type_heads T ++ th (suc d) f ++ th (suc d) e) (omega (arith, l))
        (behind k (type_heads T ++ th (suc d) f) (th (suc d) e) (behind k (type_heads T) (th (suc d) f) (typed k T) (term_low (suc d) f (omega (arith, l)))) (term_low (suc d) e (omega (arith, l))))
    term_low d (Unmarshal T e) l =
        first d k (type_heads T ++ th (suc d) e) (omega (arith, l))
        (behind k (type_heads T) (th (suc d) e) (typed k T) (term_low (suc d) e (omega (arith, l))))
    term_low d (Val T v) l =
        first d k (type_heads T ++ value_heads ref (suc d) v) (omega (arith, l))
        (behind k (type_heads T) (value_heads ref (suc d) v) (typed k T) (value_low (suc d) v (omega (arith, l))))
    term_low d (Nil T) l = first d k (type_heads T) (omega (arith, l)) (typed k T)
    term_low d (Empty T) l = first d k (type_heads T) (omega (arith, l)) (typed k T)
    term_low d (Int n) l = first d k [] (omega (arith, l)) refl
    term_low d (Boolean b) l = first d k [] (omega (arith, l)) refl
    term_low d (Str s) l = first d k [] (omega (arith, l)) refl
    term_low d Unit' l = first d k [] (omega (arith, l)) refl
    term_low d (Exn n) l = first d k [] (omega (arith, l)) refl
    term_low d (Var i) l = first d k [] (omega (arith, l)) refl
    term_low d (Own f) l = first d k [] (omega (arith, l)) refl
    term_low d (Ref j x) l = first d k [] (omega (arith, l)) refl
    term_low d (Evaluated T v) l = first d k [] (omega (arith, l)) refl
    term_low d (Bracket c T e) l = first d k [] (omega (arith, l)) refl

    terms_low : (d : ℕ) (es : Exprs) → d + depth es ≤ suc k → nest_to k (all_term_heads ref d es) ≡ true
    terms_low d no_exprs l = refl
    terms_low d (expr e es) l = behind k (th d e) (all_term_heads ref d es) (term_low d e (omega (arith, l))) (terms_low d es (omega (arith, l)))

    arms_low : (d : ℕ) (arms : Arms) → d + arm_depth arms ≤ suc k → nest_to k (arm_heads ref d arms) ≡ true
    arms_low d no_arms l = refl
    arms_low d (arm p e rest) l =
        behind k (pattern_heads d p ++ th d e) (arm_heads ref d rest) (behind k (pattern_heads d p) (th d e) (pattern_low d k p (omega (arith, l))) (term_low d e (omega (arith, l)))) (arms_low d rest (omega (arith, l)))

    value_low : (d : ℕ) (v : PValue) → d + value_nesting v ≤ suc k → nest_to k (value_heads ref d v) ≡ true
    value_low d (KTuple vs) l = first d k (all_value_heads ref (suc d) vs) (omega (arith, l)) (values_low (suc d) vs (omega (arith, l)))
    value_low d (KList vs) l = first d k (all_value_heads ref (suc d) vs) (omega (arith, l)) (values_low (suc d) vs (omega (arith, l)))
    value_low d (KPresent v) l = first d k (value_heads ref (suc d) v) (omega (arith, l)) (value_low (suc d) v (omega (arith, l)))
    value_low d (KFun c t) l = first d k (th (suc d) t) (omega (arith, l)) (term_low (suc d) t (omega (arith, l)))
    value_low d (KInt n) l = first d k [] (omega (arith, l)) refl
    value_low d (KBool b) l = first d k [] (omega (arith, l)) refl
    value_low d (KStr s) l = first d k [] (omega (arith, l)) refl
    value_low d KUnit l = first d k [] (omega (arith, l)) refl
    value_low d (KExn n s) l = first d k [] (omega (arith, l)) refl
    value_low d KAbsent l = first d k [] (omega (arith, l)) refl

    values_low : (d : ℕ) (vs : PValues) → d + value_depth vs ≤ suc k → nest_to k (all_value_heads ref d vs) ≡ true
    values_low d no_pvalues l = refl
    values_low d (pvalue v vs) l = behind k (value_heads ref d v) (all_value_heads ref d vs) (value_low d v (omega (arith, l))) (values_low d vs (omega (arith, l)))

same_test : (a b : Bool) → (a ≡ true → b ≡ true) → (b ≡ true → a ≡ true) → a ≡ b
same_test true b f g = sym (f refl)
same_test false true f g = g refl
same_test false false f g = refl

-- the heads of a packet's type and value pass a limit where the value does
pub nest_alike : (T : Typ) (v : PValue) (k : ℕ) → nest_to k (packed_heads T v) ≡ nat_le (value_nesting v) k
nest_alike T v k = same_test (nest_to k (packed_heads T v)) (nat_le (value_nesting v) k) down up
  where
    down : nest_to k (packed_heads T v) ≡ true → nat_le (value_nesting v) k ≡ true
    down e =
        let a = both_true (nat_le 0 k) (nest_to k (value_heads two_written 1 v)) e in
        let d : 1 + value_nesting v ≤ suc k = value_deep two_written k 1 v a.1 in
        le_is (value_nesting v) k (omega (arith, d))

    up : nat_le (value_nesting v) k ≡ true → nest_to k (packed_heads T v) ≡ true
    up e = let l = le_true (value_nesting v) k e in behind k (type_heads T) (value_heads two_written 1 v) (typed k T) (value_low two_written k 1 v (omega (arith, l)))
