-- The heads of a spelling with types spelled in two ways of one length: they nest, travel and are as long alike.
use Rattle.std.proofs.Common.{◌≡◌, refl, sym, ap, ap₂, ◌∙◌, ℕ, suc, ◌+◌, Bool, true, List, [], ◌∷◌, ◌++◌, length, length-append}
use Rattle.ac_types.specs.Types.{Bytes, Typ}
use Rattle.ac_terms.specs.Terms.{Pattern, PWild, PVar, PInt, PBool, PStr, PUnit, PTuple, PNil, PCons, PAbsent, PPresent, PExn, PExnOf, Patterns, no_patterns, pattern', Expr, Int, Boolean, Str, Unit', Exn, ExnOf, Tuple, Nil, Empty, Present, Cons, Var, Own, Ref, Lam, Rec, App, Let, If, Seq, Match, Try, Raise, Prim, Marshal, Unmarshal, Val, Evaluated, Bracket, Exprs, no_exprs, expr, Arms, no_arms, arm, PValue, KInt, KBool, KStr, KUnit, KExn, KTuple, KList, KAbsent, KPresent, KFun, PValues, no_pvalues, pvalue}
use Rattle.ac_terms.specs.Pieces.{one_written, two_written, four_written, pattern_count, home_bytes, term_count, arm_count, value_count}
use Rattle.ac_terms.specs.Bounds.{is_lambda}
use Rattle.ac_terms.specs.HeadsBy.{Head, before, type_heads, pattern_heads, all_pattern_heads, term_heads, all_term_heads, arm_heads, value_heads, all_value_heads}
use Rattle.ac_terms.specs.Tags as tag

-- what of a head decides whether its part fails
abbrev pub Shape : Type 0
Shape = (ℕ × Bool) × ℕ

abbrev pub shape : Head → Shape
shape h = ((h.nesting, h.travels), length h.bytes)

abbrev pub shapes : List Head → List Shape
shapes [] = []
shapes (h ∷ hs) = shape h ∷ shapes hs

pub shapes_joined : (hs ks : List Head) → shapes (hs ++ ks) ≡ shapes hs ++ shapes ks
shapes_joined [] ks = refl
shapes_joined (h ∷ hs) ks = ap (λ x. shape h ∷ x) (shapes_joined hs ks)

abbrev before_shape : ℕ → List Shape → List Shape
before_shape n [] = ((0, true), n) ∷ []
before_shape n (s ∷ ss) = (s.0, n + s.1) ∷ ss

shapes_before : (bs : Bytes) (hs : List Head) → shapes (before bs hs) ≡ before_shape (length bs) (shapes hs)
shapes_before bs [] = refl
shapes_before bs (h ∷ hs) = ap (λ n. ((h.nesting, h.travels), n) ∷ shapes hs) (length-append bs h.bytes)

abbrev pub Alike : List Head → List Head → Type 0
Alike hs ks = shapes hs ≡ shapes ks

pub both_alike : (hs hs' ks ks' : List Head) → Alike hs hs' → Alike ks ks' → Alike (hs ++ ks) (hs' ++ ks')
both_alike hs hs' ks ks' p q = shapes_joined hs ks ∙ ap₂ (λ x y. x ++ y) p q ∙ sym (shapes_joined hs' ks')

before_alike : (bs : Bytes) (hs hs' : List Head) → Alike hs hs' → Alike (before bs hs) (before bs hs')
before_alike bs hs hs' p = shapes_before bs hs ∙ ap (before_shape (length bs)) p ∙ sym (shapes_before bs hs')

-- behind a head of a tag and other bytes
put : (d : ℕ) (t : Bool) (n : ℕ) {hs ks : List Shape} → hs ≡ ks → ((d, t), n) ∷ hs ≡ ((d, t), n) ∷ ks
put d t n p = ap (λ x. ((d, t), n) ∷ x) p

module _ (f g : Typ → Bytes) (same : (T : Typ) → length (f T) ≡ length (g T)) where
  type_alike : (T : Typ) → Alike (type_heads f T) (type_heads g T)
  type_alike T = ap (λ n. ((0, true), n) ∷ []) (same T)

  mutual
    pattern_alike : (d : ℕ) (p : Pattern) → Alike (pattern_heads f d p) (pattern_heads g d p)
    pattern_alike d PWild = refl
    pattern_alike d (PVar T) = put d true 1 (type_alike T)
    pattern_alike d (PInt n) = refl
    pattern_alike d (PBool b) = refl
    pattern_alike d (PStr s) = refl
    pattern_alike d PUnit = refl
    pattern_alike d (PTuple ps) = put d true (length (tag.pattern_tuple ∷ one_written (pattern_count ps))) (all_patterns_alike (suc d) ps)
    pattern_alike d PNil = refl
    pattern_alike d (PCons p q) = put d true 1 (both_alike (pattern_heads f (suc d) p) (pattern_heads g (suc d) p) (pattern_heads f (suc d) q) (pattern_heads g (suc d) q) (pattern_alike (suc d) p) (pattern_alike (suc d) q))
    pattern_alike d PAbsent = refl
    pattern_alike d (PPresent p) = put d true 1 (pattern_alike (suc d) p)
    pattern_alike d (PExn k) = refl
    pattern_alike d (PExnOf k p) = put d true 2 (pattern_alike (suc d) p)

    all_patterns_alike : (d : ℕ) (ps : Patterns) → Alike (all_pattern_heads f d ps) (all_pattern_heads g d ps)
    all_patterns_alike d no_patterns = refl
    all_patterns_alike d (pattern' p ps) = both_alike (pattern_heads f d p) (pattern_heads g d p) (all_pattern_heads f d ps) (all_pattern_heads g d ps) (pattern_alike d p) (all_patterns_alike d ps)

  module _ (ref : ℕ → Bytes) where
    abbrev fs : ℕ → Expr → List Head
    fs = term_heads f ref

    abbrev gs : ℕ → Expr → List Head
    gs = term_heads g ref

    abbrev ft : Typ → List Head
    ft = type_heads f

    abbrev gt : Typ → List Head
    gt = type_heads g

    two_alike : (d : ℕ) (a b : Expr) → Alike (fs d a) (gs d a) → Alike (fs d b) (gs d b) → Alike (fs d a ++ fs d b) (gs d a ++ gs d b)
    two_alike d a b p q = both_alike (fs d a) (gs d a) (fs d b) (gs d b) p q

    typed_alike : (d : ℕ) (T : Typ) (e : Expr) → Alike (fs d e) (gs d e) → Alike (ft T ++ fs d e) (gt T ++ gs d e)
    typed_alike d T e p = both_alike (ft T) (gt T) (fs d e) (gs d e) (type_alike T) p

    cases_alike : (d : ℕ) (e : Expr) (cases : Arms) → Alike (fs d e) (gs d e) → Alike (arm_heads f ref d cases) (arm_heads g ref d cases) →
        Alike (fs d e ++ before (two_written (arm_count cases)) (arm_heads f ref d cases)) (gs d e ++ before (two_written (arm_count cases)) (arm_heads g ref d cases))
    cases_alike d e cases p q =
        both_alike (fs d e) (gs d e) (before (two_written (arm_count cases)) (arm_heads f ref d cases)) (before (two_written (arm_count cases)) (arm_heads g ref d cases)) p
        (before_alike (two_written (arm_count cases)) (arm_heads f ref d cases) (arm_heads g ref d cases) q)

    mutual
      pub term_alike : (d : ℕ) (e : Expr) → Alike (term_heads f ref d e) (term_heads g ref d e)
      term_alike d (Int n) = refl
      term_alike d (Boolean b) = refl
      term_alike d (Str s) = refl
      term_alike d Unit' = refl
      term_alike d (Exn k) = refl
      term_alike d (ExnOf k e) = put d true 2 (term_alike (suc d) e)
      term_alike d (Tuple es) = put d true (length (tag.term_tuple ∷ one_written (term_count es))) (terms_alike (suc d) es)
      term_alike d (Nil T) = put d true 1 (type_alike T)
      term_alike d (Empty T) = put d true 1 (type_alike T)
      term_alike d (Present e) = put d true 1 (term_alike (suc d) e)
      term_alike d (Cons a b) = put d true 1 (two_alike (suc d) a b (term_alike (suc d) a) (term_alike (suc d) b))
      term_alike d (Var i) = refl
      term_alike d (Own i) = refl
      term_alike d (Ref j x) = refl
      term_alike d (Lam T e) = put d true 1 (typed_alike (suc d) T e (term_alike (suc d) e))
      term_alike d (Rec T U e) = put d true 1 (both_alike (ft T ++ ft U) (gt T ++ gt U) (fs (suc d) e) (gs (suc d) e) (both_alike (ft T) (gt T) (ft U) (gt U) (type_alike T) (type_alike U)) (term_alike (suc d) e))
      term_alike d (App a b) = put d true 1 (two_alike (suc d) a b (term_alike (suc d) a) (term_alike (suc d) b))
      term_alike d (Let T e b) = put d true 1 (both_alike (ft T ++ fs (suc d) e) (gt T ++ gs (suc d) e) (fs (suc d) b) (gs (suc d) b) (typed_alike (suc d) T e (term_alike (suc d) e)) (term_alike (suc d) b))
      term_alike d (If c a b) = put d true 1 (both_alike (fs (suc d) c ++ fs (suc d) a) (gs (suc d) c ++ gs (suc d) a) (fs (suc d) b) (gs (suc d) b) (two_alike (suc d) c a (term_alike (suc d) c) (term_alike (suc d) a)) (term_alike (suc d) b))
      term_alike d (Seq es) = put d true (length (tag.term_seq ∷ four_written (term_count es))) (terms_alike (suc d) es)
      term_alike d (Match e cases) = put d true 1 (cases_alike (suc d) e cases (term_alike (suc d) e) (arms_alike (suc d) cases))
      term_alike d (Try e cases) = put d true 1 (cases_alike (suc d) e cases (term_alike (suc d) e) (arms_alike (suc d) cases))
      term_alike d (Raise T e) = put d true 1 (typed_alike (suc d) T e (term_alike (suc d) e))
      term_alike d (Prim k es) = put d true 2 (terms_alike (suc d) es)
      term_alike d (Marshal T m e) = put d true 1 (both_alike (ft T ++ fs (suc d) m) (gt T ++ gs (suc d) m) (fs (suc d) e) (gs (suc d) e) (typed_alike (suc d) T m (term_alike (suc d) m)) (term_alike (suc d) e))
      term_alike d (Unmarshal T e) = put d true 1 (typed_alike (suc d) T e (term_alike (suc d) e))
      term_alike d (Val T v) = put d true 1 (both_alike (ft T) (gt T) (value_heads f ref (suc d) v) (value_heads g ref (suc d) v) (type_alike T) (value_alike (suc d) v))
      term_alike d (Evaluated T v) = refl
      term_alike d (Bracket c T e) = refl

      terms_alike : (d : ℕ) (es : Exprs) → Alike (all_term_heads f ref d es) (all_term_heads g ref d es)
      terms_alike d no_exprs = refl
      terms_alike d (expr e es) = both_alike (fs d e) (gs d e) (all_term_heads f ref d es) (all_term_heads g ref d es) (term_alike d e) (terms_alike d es)

      arms_alike : (d : ℕ) (cases : Arms) → Alike (arm_heads f ref d cases) (arm_heads g ref d cases)
      arms_alike d no_arms = refl
      arms_alike d (arm p e rest) =
          both_alike (pattern_heads f d p ++ fs d e) (pattern_heads g d p ++ gs d e) (arm_heads f ref d rest) (arm_heads g ref d rest)
          (both_alike (pattern_heads f d p) (pattern_heads g d p) (fs d e) (gs d e) (pattern_alike d p) (term_alike d e)) (arms_alike d rest)

      pub value_alike : (d : ℕ) (v : PValue) → Alike (value_heads f ref d v) (value_heads g ref d v)
      value_alike d (KInt n) = refl
      value_alike d (KBool b) = refl
      value_alike d (KStr s) = refl
      value_alike d KUnit = refl
      value_alike d (KExn k s) = refl
      value_alike d (KTuple vs) = put d true (length (tag.value_tuple ∷ one_written (value_count vs))) (values_alike (suc d) vs)
      value_alike d (KList vs) = put d true (length (tag.value_list ∷ four_written (value_count vs))) (values_alike (suc d) vs)
      value_alike d KAbsent = refl
      value_alike d (KPresent v) = put d true 1 (value_alike (suc d) v)
      value_alike d (KFun h l) = put d (is_lambda l) (length (tag.value_fun ∷ home_bytes h)) (term_alike (suc d) l)

      values_alike : (d : ℕ) (vs : PValues) → Alike (all_value_heads f ref d vs) (all_value_heads g ref d vs)
      values_alike d no_pvalues = refl
      values_alike d (pvalue v vs) = both_alike (value_heads f ref d v) (value_heads g ref d v) (all_value_heads f ref d vs) (all_value_heads g ref d vs) (value_alike d v) (values_alike d vs)

    -- the parts of a packet's type and value
    pub packed_alike : (T : Typ) (v : PValue) → Alike (type_heads f T ++ value_heads f ref 1 v) (type_heads g T ++ value_heads g ref 1 v)
    packed_alike T v = both_alike (type_heads f T) (type_heads g T) (value_heads f ref 1 v) (value_heads g ref 1 v) (type_alike T) (value_alike 1 v)
