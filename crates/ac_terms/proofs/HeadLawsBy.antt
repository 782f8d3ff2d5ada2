-- The heads of a spelling are its pieces, and nest as it does, whatever spells types.
use Rattle.std.proofs.Common.{◌≡◌, refl, sym, ap, ap₂, ◌∙◌, ℕ, suc, ◌+◌, ◌≤◌, Bool, true, ◌&&◌, List, [], ◌∷◌, ◌++◌, append-nil, append_assoc}
use Rattle.std.specs.Prelude.{nat_le, flat_map}
use Rattle.std.specs.List.{list_all}
use native.Mathlib.Omega.{arith}
use Rattle.ac_types.proofs.Same.{both_true, and_true}
use Rattle.ac_types.specs.Types.{Bytes, Typ}
use Rattle.ac_terms.specs.Terms.{Pattern, PWild, PVar, PInt, PBool, PStr, PUnit, PTuple, PNil, PCons, PAbsent, PPresent, PExn, PExnOf, Patterns, no_patterns, pattern', Expr, Int, Boolean, Str, Unit', Exn, ExnOf, Tuple, Nil, Empty, Present, Cons, Var, Own, Ref, Lam, Rec, App, Let, If, Seq, Match, Try, Raise, Prim, Marshal, Unmarshal, Val, Evaluated, Bracket, Exprs, no_exprs, expr, Arms, no_arms, arm, PValue, KInt, KBool, KStr, KUnit, KExn, KTuple, KList, KAbsent, KPresent, KFun, PValues, no_pvalues, pvalue}
use Rattle.ac_terms.specs.Pieces.{one_written, two_written, four_written, pattern_count, home_bytes, term_count, arm_count, value_count}
use Rattle.ac_terms.specs.SpelledBy as by
use Rattle.ac_terms.specs.Nesting.{pattern_nesting, pattern_depth, nesting, depth, arm_depth, value_nesting, value_depth}
use Rattle.ac_terms.specs.HeadsBy.{Head, before}
use Rattle.ac_terms.specs.HeadsBy as heads
use Rattle.ac_terms.specs.Tags as tag
use Rattle.ac_terms.proofs.TestLaws.{le_true}

-- the bytes of some heads, one after the other
abbrev pub spelling : List Head → Bytes
spelling hs = flat_map (λ (h : Head). h.bytes) hs

pub joined : (hs ks : List Head) → spelling (hs ++ ks) ≡ spelling hs ++ spelling ks
joined [] ks = refl
joined (h ∷ hs) ks = ap (λ x. h.bytes ++ x) (joined hs ks) ∙ sym (append_assoc h.bytes (spelling hs) (spelling ks))

pub preceded : (bs : Bytes) (hs : List Head) → spelling (before bs hs) ≡ bs ++ spelling hs
preceded bs [] = refl
preceded bs (h ∷ hs) = append_assoc bs h.bytes (spelling hs)

both : (hs ks : List Head) {bs cs : Bytes} → spelling hs ≡ bs → spelling ks ≡ cs → spelling (hs ++ ks) ≡ bs ++ cs
both hs ks p q = joined hs ks ∙ ap₂ (λ x y. x ++ y) p q

-- heads with a count between them
around : (hs ks : List Head) (n : Bytes) {bs cs : Bytes} → spelling hs ≡ bs → spelling ks ≡ cs → spelling (hs ++ before n ks) ≡ bs ++ n ++ cs
around hs ks n {bs} {cs} p q = both hs (before n ks) p (preceded n ks ∙ ap (λ x. n ++ x) q) ∙ sym (append_assoc bs n cs)

-- where no head nests further than k, nothing does
abbrev pub nest_to : ℕ → List Head → Bool
nest_to k hs = list_all (λ (h : Head). nat_le h.nesting k) hs

nest_both : (k : ℕ) (hs ks : List Head) → nest_to k (hs ++ ks) ≡ true → (nest_to k hs ≡ true) × (nest_to k ks ≡ true)
nest_both k [] ks e = (refl, e)
nest_both k (h ∷ hs) ks e =
    let a = both_true (nat_le h.nesting k) (nest_to k (hs ++ ks)) e in
    let b = nest_both k hs ks a.1 in
    (and_true {a = nat_le h.nesting k} {b = nest_to k hs} a.0 b.0, b.1)

nest_before : (k : ℕ) (bs : Bytes) (hs : List Head) → nest_to k (before bs hs) ≡ true → nest_to k hs ≡ true
nest_before k bs [] e = refl
nest_before k bs (h ∷ hs) e = e

-- a head and what follows
step : (d k : ℕ) (hs : List Head) → (nat_le d k && nest_to k hs) ≡ true → (suc d ≤ suc k) × (nest_to k hs ≡ true)
step d k hs e = let a = both_true (nat_le d k) (nest_to k hs) e in let h = le_true d k a.0 in (omega (arith, h), a.1)

-- types are spelled so
module _ (type_bytes : Typ → Bytes) where
  abbrev type_heads : Typ → List Head
  type_heads = heads.type_heads type_bytes

  abbrev pattern_bytes : Pattern → Bytes
  pattern_bytes = by.pattern_bytes type_bytes

  abbrev all_pattern_bytes : Patterns → Bytes
  all_pattern_bytes = by.all_pattern_bytes type_bytes

  abbrev pattern_heads : ℕ → Pattern → List Head
  pattern_heads = heads.pattern_heads type_bytes

  abbrev all_pattern_heads : ℕ → Patterns → List Head
  all_pattern_heads = heads.all_pattern_heads type_bytes

  abbrev term_bytes : (ℕ → Bytes) → Expr → Bytes
  term_bytes = by.term_bytes type_bytes

  abbrev all_term_bytes : (ℕ → Bytes) → Exprs → Bytes
  all_term_bytes = by.all_term_bytes type_bytes

  abbrev arm_bytes : (ℕ → Bytes) → Arms → Bytes
  arm_bytes = by.arm_bytes type_bytes

  abbrev value_bytes : (ℕ → Bytes) → PValue → Bytes
  value_bytes = by.value_bytes type_bytes

  abbrev all_value_bytes : (ℕ → Bytes) → PValues → Bytes
  all_value_bytes = by.all_value_bytes type_bytes

  abbrev term_heads : (ℕ → Bytes) → ℕ → Expr → List Head
  term_heads = heads.term_heads type_bytes

  abbrev all_term_heads : (ℕ → Bytes) → ℕ → Exprs → List Head
  all_term_heads = heads.all_term_heads type_bytes

  abbrev arm_heads : (ℕ → Bytes) → ℕ → Arms → List Head
  arm_heads = heads.arm_heads type_bytes

  abbrev value_heads : (ℕ → Bytes) → ℕ → PValue → List Head
  value_heads = heads.value_heads type_bytes

  abbrev all_value_heads : (ℕ → Bytes) → ℕ → PValues → List Head
  all_value_heads = heads.all_value_heads type_bytes

  type_spelled : (T : Typ) → spelling (type_heads T) ≡ type_bytes T
  type_spelled T = append-nil (type_bytes T)

  mutual
    pub pattern_spelled : (d : ℕ) (p : Pattern) → spelling (pattern_heads d p) ≡ pattern_bytes p
    pattern_spelled d PWild = refl
    pattern_spelled d (PVar T) = ap (λ x. tag.pattern_var ∷ x) (type_spelled T)
    pattern_spelled d (PInt n) = append-nil (pattern_bytes (PInt n))
    pattern_spelled d (PBool b) = append-nil (pattern_bytes (PBool b))
    pattern_spelled d (PStr s) = append-nil (pattern_bytes (PStr s))
    pattern_spelled d PUnit = refl
    pattern_spelled d (PTuple ps) = ap (λ x. tag.pattern_tuple ∷ one_written (pattern_count ps) ++ x) (all_patterns_spelled (suc d) ps)
    pattern_spelled d PNil = refl
    pattern_spelled d (PCons p q) = ap (λ x. tag.pattern_cons ∷ x) (both (pattern_heads (suc d) p) (pattern_heads (suc d) q) (pattern_spelled (suc d) p) (pattern_spelled (suc d) q))
    pattern_spelled d PAbsent = refl
    pattern_spelled d (PPresent p) = ap (λ x. tag.pattern_present ∷ x) (pattern_spelled (suc d) p)
    pattern_spelled d (PExn k) = refl
    pattern_spelled d (PExnOf k p) = ap (λ x. tag.pattern_exn ∷ k ∷ x) (pattern_spelled (suc d) p)

    all_patterns_spelled : (d : ℕ) (ps : Patterns) → spelling (all_pattern_heads d ps) ≡ all_pattern_bytes ps
    all_patterns_spelled d no_patterns = refl
    all_patterns_spelled d (pattern' p ps) = both (pattern_heads d p) (all_pattern_heads d ps) (pattern_spelled d p) (all_patterns_spelled d ps)

  module _ (ref : ℕ → Bytes) where
    abbrev th : ℕ → Expr → List Head
    th d e = term_heads ref d e

    mutual
      pub term_spelled : (d : ℕ) (e : Expr) → spelling (term_heads ref d e) ≡ term_bytes ref e
      term_spelled d (Int n) = append-nil (term_bytes ref (Int n))
      term_spelled d (Boolean b) = append-nil (term_bytes ref (Boolean b))
      term_spelled d (Str s) = append-nil (term_bytes ref (Str s))
      term_spelled d Unit' = refl
      term_spelled d (Exn k) = refl
      term_spelled d (ExnOf k e) = ap (λ x. tag.term_exn ∷ k ∷ x) (term_spelled (suc d) e)
      term_spelled d (Tuple es) = ap (λ x. tag.term_tuple ∷ one_written (term_count es) ++ x) (all_terms_spelled (suc d) es)
      term_spelled d (Nil T) = ap (λ x. tag.term_nil ∷ x) (type_spelled T)
      term_spelled d (Empty T) = ap (λ x. tag.term_empty ∷ x) (type_spelled T)
      term_spelled d (Present e) = ap (λ x. tag.term_present ∷ x) (term_spelled (suc d) e)
      term_spelled d (Cons a b) = ap (λ x. tag.term_cons ∷ x) (both (th (suc d) a) (th (suc d) b) (term_spelled (suc d) a) (term_spelled (suc d) b))
      term_spelled d (Var i) = append-nil (term_bytes ref (Var i))
      term_spelled d (Own f) = append-nil (term_bytes ref (Own f))
      term_spelled d (Ref j x) = append-nil (term_bytes ref (Ref j x))
      term_spelled d (Lam T e) = ap (λ x. tag.term_lam ∷ x) (both (type_heads T) (th (suc d) e) (type_spelled T) (term_spelled (suc d) e))
      term_spelled d (Rec T U e) =
          ap (λ x. tag.term_rec ∷ x) (both (type_heads T ++ type_heads U) (th (suc d) e) (both (type_heads T) (type_heads U) (type_spelled T) (type_spelled U)) (term_spelled (suc d) e))
      term_spelled d (App f a) = ap (λ x. tag.term_app ∷ x) (both (th (suc d) f) (th (suc d) a) (term_spelled (suc d) f) (term_spelled (suc d) a))
      term_spelled d (Let T e b) =
          ap (λ x. tag.term_let ∷ x) (both (type_heads T ++ th (suc d) e) (th (suc d) b) (both (type_heads T) (th (suc d) e) (type_spelled T) (term_spelled (suc d) e)) (term_spelled (suc d) b))
      term_spelled d (If c a b) =
          ap (λ x. tag.term_if ∷ x) (both (th (suc d) c ++ th (suc d) a) (th (suc d) b) (both (th (suc d) c) (th (suc d) a) (term_spelled (suc d) c) (term_spelled (suc d) a)) (term_spelled (suc d) b))
      term_spelled d (Seq es) = ap (λ x. tag.term_seq ∷ four_written (term_count es) ++ x) (all_terms_spelled (suc d) es)
      term_spelled d (Match e arms) = ap (λ x. tag.term_match ∷ x) (around (th (suc d) e) (arm_heads ref (suc d) arms) (two_written (arm_count arms)) (term_spelled (suc d) e) (arms_spelled (suc d) arms))
      term_spelled d (Try e arms) = ap (λ x. tag.term_try ∷ x) (around (th (suc d) e) (arm_heads ref (suc d) arms) (two_written (arm_count arms)) (term_spelled (suc d) e) (arms_spelled (suc d) arms))
      term_spelled d (Raise T e) = ap (λ x. tag.term_raise ∷ x) (both (type_heads T) (th (suc d) e) (type_spelled T) (term_spelled (suc d) e))
      term_spelled d (Prim k es) = ap (λ x. tag.term_prim ∷ k ∷ x) (all_terms_spelled (suc d) es)
      term_spelled d (Marshal T m e) =
          ap (λ x. tag.term_marshal ∷ x) (both (type_heads T ++ th (suc d) m) (th (suc d) e) (both (type_heads T) (th (suc d) m) (type_spelled T) (term_spelled (suc d) m)) (term_spelled (suc d) e))
      term_spelled d (Unmarshal T e) = ap (λ x. tag.term_unmarshal ∷ x) (both (type_heads T) (th (suc d) e) (type_spelled T) (term_spelled (suc d) e))
      term_spelled d (Val T v) = ap (λ x. tag.term_val ∷ x) (both (type_heads T) (value_heads ref (suc d) v) (type_spelled T) (value_spelled (suc d) v))
      term_spelled d (Evaluated T v) = refl
      term_spelled d (Bracket c T e) = refl

      all_terms_spelled : (d : ℕ) (es : Exprs) → spelling (all_term_heads ref d es) ≡ all_term_bytes ref es
      all_terms_spelled d no_exprs = refl
      all_terms_spelled d (expr e es) = both (th d e) (all_term_heads ref d es) (term_spelled d e) (all_terms_spelled d es)

      arms_spelled : (d : ℕ) (arms : Arms) → spelling (arm_heads ref d arms) ≡ arm_bytes ref arms
      arms_spelled d no_arms = refl
      arms_spelled d (arm p e rest) =
          both (pattern_heads d p ++ th d e) (arm_heads ref d rest) (both (pattern_heads d p) (th d e) (pattern_spelled d p) (term_spelled d e)) (arms_spelled d rest)

      pub value_spelled : (d : ℕ) (v : PValue) → spelling (value_heads ref d v) ≡ value_bytes ref v
      value_spelled d (KInt n) = append-nil (value_bytes ref (KInt n))
      value_spelled d (KBool b) = append-nil (value_bytes ref (KBool b))
      value_spelled d (KStr s) = append-nil (value_bytes ref (KStr s))
      value_spelled d KUnit = refl
      value_spelled d (KExn k s) = append-nil (value_bytes ref (KExn k s))
      value_spelled d (KTuple vs) = ap (λ x. tag.value_tuple ∷ one_written (value_count vs) ++ x) (all_values_spelled (suc d) vs)
      value_spelled d (KList vs) = ap (λ x. tag.value_list ∷ four_written (value_count vs) ++ x) (all_values_spelled (suc d) vs)
      value_spelled d KAbsent = refl
      value_spelled d (KPresent v) = ap (λ x. tag.value_present ∷ x) (value_spelled (suc d) v)
      value_spelled d (KFun h l) = ap (λ x. tag.value_fun ∷ home_bytes h ++ x) (term_spelled (suc d) l)

      all_values_spelled : (d : ℕ) (vs : PValues) → spelling (all_value_heads ref d vs) ≡ all_value_bytes ref vs
      all_values_spelled d no_pvalues = refl
      all_values_spelled d (pvalue v vs) = both (value_heads ref d v) (all_value_heads ref d vs) (value_spelled d v) (all_values_spelled d vs)

  mutual
    pattern_deep : (d k : ℕ) (p : Pattern) → nest_to k (pattern_heads d p) ≡ true → d + pattern_nesting p ≤ suc k
    pattern_deep d k (PVar T) e = let a = step d k (type_heads T) e in omega (arith, a.0)
    pattern_deep d k (PTuple ps) e = let a = step d k (all_pattern_heads (suc d) ps) e in omega (arith, patterns_deep (suc d) k ps a.0 a.1)
    pattern_deep d k (PCons p q) e =
        let a = step d k (pattern_heads (suc d) p ++ pattern_heads (suc d) q) e in
        let b = nest_both k (pattern_heads (suc d) p) (pattern_heads (suc d) q) a.1 in
        omega (arith, pattern_deep (suc d) k p b.0, pattern_deep (suc d) k q b.1)
    pattern_deep d k (PPresent p) e = let a = step d k (pattern_heads (suc d) p) e in omega (arith, pattern_deep (suc d) k p a.1)
    pattern_deep d k (PExnOf n p) e = let a = step d k (pattern_heads (suc d) p) e in omega (arith, pattern_deep (suc d) k p a.1)
    pattern_deep d k PWild e = let a = step d k [] e in omega (arith, a.0)
    pattern_deep d k (PInt n) e = let a = step d k [] e in omega (arith, a.0)
    pattern_deep d k (PBool b) e = let a = step d k [] e in omega (arith, a.0)
    pattern_deep d k (PStr s) e = let a = step d k [] e in omega (arith, a.0)
    pattern_deep d k PUnit e = let a = step d k [] e in omega (arith, a.0)
    pattern_deep d k PNil e = let a = step d k [] e in omega (arith, a.0)
    pattern_deep d k PAbsent e = let a = step d k [] e in omega (arith, a.0)
    pattern_deep d k (PExn n) e = let a = step d k [] e in omega (arith, a.0)

    patterns_deep : (d k : ℕ) (ps : Patterns) → d ≤ suc k → nest_to k (all_pattern_heads d ps) ≡ true → d + pattern_depth ps ≤ suc k
    patterns_deep d k no_patterns h e = omega (arith, h)
    patterns_deep d k (pattern' p ps) h e =
        let b = nest_both k (pattern_heads d p) (all_pattern_heads d ps) e in
        omega (arith, pattern_deep d k p b.0, patterns_deep d k ps h b.1)

  module _ (ref : ℕ → Bytes) (k : ℕ) where
    abbrev ths : ℕ → Expr → List Head
    ths d e = term_heads ref d e

    mutual
      term_deep : (d : ℕ) (e : Expr) → nest_to k (term_heads ref d e) ≡ true → d + nesting e ≤ suc k
      term_deep d (ExnOf n e) h = let a = step d k (ths (suc d) e) h in omega (arith, term_deep (suc d) e a.1)
      term_deep d (Tuple es) h = let a = step d k (all_term_heads ref (suc d) es) h in omega (arith, terms_deep (suc d) es a.0 a.1)
      term_deep d (Present e) h = let a = step d k (ths (suc d) e) h in omega (arith, term_deep (suc d) e a.1)
      term_deep d (Cons f e) h =
          let a = step d k (ths (suc d) f ++ ths (suc d) e) h in
          let b = nest_both k (ths (suc d) f) (ths (suc d) e) a.1 in
          omega (arith, term_deep (suc d) f b.0, term_deep (suc d) e b.1)
      term_deep d (Lam T e) h =
          let a = step d k (type_heads T ++ ths (suc d) e) h in
          let b = nest_both k (type_heads T) (ths (suc d) e) a.1 in
          omega (arith, term_deep (suc d) e b.1)
      term_deep d (Rec T U e) h =
          let a = step d k (type_heads T ++ type_heads U ++ ths (suc d) e) h in
          let b = nest_both k (type_heads T ++ type_heads U) (ths (suc d) e) a.1 in
          omega (arith, term_deep (suc d) e b.1)
      term_deep d (App f e) h =
          let a = step d k (ths (suc d) f ++ ths (suc d) e) h in
          let b = nest_both k (ths (suc d) f) (ths (suc d) e) a.1 in
          omega (arith, term_deep (suc d) f b.0, term_deep (suc d) e b.1)
      term_deep d (Let T f e) h =
          let a = step d k (type_heads T ++ ths (suc d) f ++ ths (suc d) e) h in
          let b = nest_both k (type_heads T ++ ths (suc d) f) (ths (suc d) e) a.1 in
          let c = nest_both k (type_heads T) (ths (suc d) f) b.0 in
          omega (arith, term_deep (suc d) f c.1, term_deep (suc d) e b.1)
      term_deep d (If c f e) h =
          let a = step d k (ths (suc d) c ++ ths (suc d) f ++ ths (suc d) e) h in
          let b = nest_both k (ths (suc d) c ++ ths (suc d) f) (ths (suc d) e) a.1 in
          let g = nest_both k (ths (suc d) c) (ths (suc d) f) b.0 in
          omega (arith, term_deep (suc d) c g.0, term_deep (suc d) f g.1, term_deep (suc d) e b.1)
      term_deep d (Seq es) h = let a = step d k (all_term_heads ref (suc d) es) h in omega (arith, terms_deep (suc d) es a.0 a.1)
      term_deep d (Match e arms) h =
          let a = step d k (ths (suc d) e ++ before (two_written (arm_count arms)) (arm_heads ref (suc d) arms)) h in
          let b = nest_both k (ths (suc d) e) (before (two_written (arm_count arms)) (arm_heads ref (suc d) arms)) a.1 in
          omega (arith, term_deep (suc d) e b.0, arms_deep (suc d) arms a.0 (nest_before k (two_written (arm_count arms)) (arm_heads ref (suc d) arms) b.1))
      term_deep d (Try e arms) h =
          let a = step d k (ths (suc d) e ++ before (two_written (arm_count arms)) (arm_heads ref (suc d) arms)) h in
          let b = nest_both k (ths (suc d) e) (before (two_written (arm_count arms)) (arm_heads ref (suc d) arms)) a.1 in
          omega (arith, term_deep (suc d) e b.0, arms_deep (suc d) arms a.0 (nest_before k (two_written (arm_count arms)) (arm_heads ref (suc d) arms) b.1))
      term_deep d (Raise T e) h =
          let a = step d k (type_heads T ++ ths (suc d) e) h in
          let b = nest_both k (type_heads T) (ths (suc d) e) a.1 in
          omega (arith, term_deep (suc d) e b.1)
      term_deep d (Prim n es) h = let a = step d k (all_term_heads ref (suc d) es) h in omega (arith, terms_deep (suc d) es a.0 a.1)
      term_deep d (Marshal T f e) h =
          let a = step d k (type_heads T ++ ths (suc d) f ++ ths (suc d) e) h in
          let b = nest_both k (type_heads T ++ ths (suc d) f) (ths (suc d) e) a.1 in
          let c = nest_both k (type_heads T) (ths (suc d) f) b.0 in
          omega (arith, term_deep (suc d) f c.1, term_deep (suc d) e b.1)
      term_deep d (Unmarshal T e) h =
          let a = step d k (type_heads T ++ ths (suc d) e) h in
          let b = nest_both k (type_heads T) (ths (suc d) e) a.1 in
          omega (arith, term_deep (suc d) e b.1)
      term_deep d (Val T v) h =
          let a = step d k (type_heads T ++ value_heads ref (suc d) v) h in
          let b = nest_both k (type_heads T) (value_heads ref (suc d) v) a.1 in
          omega (arith, value_deep (suc d) v b.1)
      term_deep d (Nil T) h = let a = step d k (type_heads T) h in omega (arith, a.0)
      term_deep d (Empty T) h = let a = step d k (type_heads T) h in omega (arith, a.0)
      term_deep d (Int n) h = let a = step d k [] h in omega (arith, a.0)
      term_deep d (Boolean b) h = let a = step d k [] h in omega (arith, a.0)
      term_deep d (Str s) h = let a = step d k [] h in omega (arith, a.0)
      term_deep d Unit' h = let a = step d k [] h in omega (arith, a.0)
      term_deep d (Exn n) h = let a = step d k [] h in omega (arith, a.0)
      term_deep d (Var i) h = let a = step d k [] h in omega (arith, a.0)
      term_deep d (Own f) h = let a = step d k [] h in omega (arith, a.0)
      term_deep d (Ref j x) h = let a = step d k [] h in omega (arith, a.0)
      term_deep d (Evaluated T v) h = let a = step d k [] h in omega (arith, a.0)
      term_deep d (Bracket c T e) h = let a = step d k [] h in omega (arith, a.0)

      terms_deep : (d : ℕ) (es : Exprs) → d ≤ suc k → nest_to k (all_term_heads ref d es) ≡ true → d + depth es ≤ suc k
      terms_deep d no_exprs h e = omega (arith, h)
      terms_deep d (expr e es) h n =
          let b = nest_both k (ths d e) (all_term_heads ref d es) n in
          omega (arith, term_deep d e b.0, terms_deep d es h b.1)

      arms_deep : (d : ℕ) (arms : Arms) → d ≤ suc k → nest_to k (arm_heads ref d arms) ≡ true → d + arm_depth arms ≤ suc k
      arms_deep d no_arms h n = omega (arith, h)
      arms_deep d (arm p e rest) h n =
          let b = nest_both k (pattern_heads d p ++ ths d e) (arm_heads ref d rest) n in
          let c = nest_both k (pattern_heads d p) (ths d e) b.0 in
          omega (arith, pattern_deep d k p c.0, term_deep d e c.1, arms_deep d rest h b.1)

      pub value_deep : (d : ℕ) (v : PValue) → nest_to k (value_heads ref d v) ≡ true → d + value_nesting v ≤ suc k
      value_deep d (KTuple vs) h = let a = step d k (all_value_heads ref (suc d) vs) h in omega (arith, values_deep (suc d) vs a.0 a.1)
      value_deep d (KList vs) h = let a = step d k (all_value_heads ref (suc d) vs) h in omega (arith, values_deep (suc d) vs a.0 a.1)
      value_deep d (KPresent v) h = let a = step d k (value_heads ref (suc d) v) h in omega (arith, value_deep (suc d) v a.1)
      value_deep d (KFun c l) h = let a = step d k (ths (suc d) l) h in omega (arith, term_deep (suc d) l a.1)
      value_deep d (KInt n) h = let a = step d k [] h in omega (arith, a.0)
      value_deep d (KBool b) h = let a = step d k [] h in omega (arith, a.0)
      value_deep d (KStr s) h = let a = step d k [] h in omega (arith, a.0)
      value_deep d KUnit h = let a = step d k [] h in omega (arith, a.0)
      value_deep d (KExn n s) h = let a = step d k [] h in omega (arith, a.0)
      value_deep d KAbsent h = let a = step d k [] h in omega (arith, a.0)

      values_deep : (d : ℕ) (vs : PValues) → d ≤ suc k → nest_to k (all_value_heads ref d vs) ≡ true → d + value_depth vs ≤ suc k
      values_deep d no_pvalues h n = omega (arith, h)
      values_deep d (pvalue v vs) h n =
          let b = nest_both k (value_heads ref d v) (all_value_heads ref d vs) n in
          omega (arith, value_deep d v b.0, values_deep d vs h b.1)
