-- The parts of a type, a pattern, a term and a packed value in the order in which they are written, whatever spells types and references.
use Rattle.std.specs.Prelude.{ℕ, suc, Bool, true, false, List, [], ◌∷◌, ◌++◌}
use Rattle.ac_types.specs.Types.{Bytes, Typ}
use Rattle.ac_terms.specs.Terms.{Pattern, PWild, PVar, PInt, PBool, PStr, PUnit, PTuple, PNil, PCons, PAbsent, PPresent, PExn, PExnOf, Patterns, no_patterns, pattern', Expr, Int, Boolean, Str, Unit', Exn, ExnOf, Tuple, Nil, Empty, Present, Cons, Var, Own, Ref, Lam, Rec, App, Let, If, Seq, Match, Try, Raise, Prim, Marshal, Unmarshal, Val, Evaluated, Bracket, Exprs, no_exprs, expr, Arms, no_arms, arm, PValue, KInt, KBool, KStr, KUnit, KExn, KTuple, KList, KAbsent, KPresent, KFun, PValues, no_pvalues, pvalue}
use Rattle.ac_terms.specs.Pieces.{one_written, two_written, four_written, pattern_count, home_bytes, term_count, arm_count, value_count}
use Rattle.ac_terms.specs.SpelledBy.{pattern_bytes, term_bytes, value_bytes}
use Rattle.ac_terms.specs.Bounds.{is_lambda}
use Rattle.ac_terms.specs.Tags as tag

-- a part by its head
pub record Head : Type 0 where
  -- the values, terms and patterns on the path down to it, itself among them; a type is none
  pub nesting : ℕ
  -- whether it has a spelling: what can't travel has none
  pub travels : Bool
  -- its bytes up to its first inner part, or all where it has none, after those that belong to no part since the head before
  pub bytes : Bytes

abbrev pub next_head : ℕ → Bytes → Head
next_head d bs = record { nesting = d; travels = true; bytes = bs }

-- bytes that belong to no part stand before the next head
abbrev pub before : Bytes → List Head → List Head
before bs [] = next_head 0 bs ∷ []
before bs (h ∷ hs) = record h { bytes = bs ++ h.bytes } ∷ hs

module _ (type_bytes : Typ → Bytes) where
  -- a type nests nothing and always travels, so it counts as one part: its own parts pass a limit where the whole does
  abbrev pub type_heads : Typ → List Head
  type_heads T = next_head 0 (type_bytes T) ∷ []

  -- a pattern, nested so deep
  abbrev mutual
    pub pattern_heads : ℕ → Pattern → List Head
    pattern_heads d PWild = next_head d (pattern_bytes type_bytes PWild) ∷ []
    pattern_heads d (PVar T) = next_head d (tag.pattern_var ∷ []) ∷ type_heads T
    pattern_heads d (PInt n) = next_head d (pattern_bytes type_bytes (PInt n)) ∷ []
    pattern_heads d (PBool b) = next_head d (pattern_bytes type_bytes (PBool b)) ∷ []
    pattern_heads d (PStr s) = next_head d (pattern_bytes type_bytes (PStr s)) ∷ []
    pattern_heads d PUnit = next_head d (pattern_bytes type_bytes PUnit) ∷ []
    pattern_heads d (PTuple ps) = next_head d (tag.pattern_tuple ∷ one_written (pattern_count ps)) ∷ all_pattern_heads (suc d) ps
    pattern_heads d PNil = next_head d (pattern_bytes type_bytes PNil) ∷ []
    pattern_heads d (PCons p q) = next_head d (tag.pattern_cons ∷ []) ∷ pattern_heads (suc d) p ++ pattern_heads (suc d) q
    pattern_heads d PAbsent = next_head d (pattern_bytes type_bytes PAbsent) ∷ []
    pattern_heads d (PPresent p) = next_head d (tag.pattern_present ∷ []) ∷ pattern_heads (suc d) p
    pattern_heads d (PExn k) = next_head d (pattern_bytes type_bytes (PExn k)) ∷ []
    pattern_heads d (PExnOf k p) = next_head d (tag.pattern_exn ∷ k ∷ []) ∷ pattern_heads (suc d) p

    pub all_pattern_heads : ℕ → Patterns → List Head
    all_pattern_heads d no_patterns = []
    all_pattern_heads d (pattern' p ps) = pattern_heads d p ++ all_pattern_heads d ps

module _ (type_bytes : Typ → Bytes) (ref : ℕ → Bytes) where
  -- a term and a packed value, nested so deep
  abbrev mutual
    pub term_heads : ℕ → Expr → List Head
    term_heads d (Int n) = next_head d (term_bytes type_bytes ref (Int n)) ∷ []
    term_heads d (Boolean b) = next_head d (term_bytes type_bytes ref (Boolean b)) ∷ []
    term_heads d (Str s) = next_head d (term_bytes type_bytes ref (Str s)) ∷ []
    term_heads d Unit' = next_head d (term_bytes type_bytes ref Unit') ∷ []
    term_heads d (Exn k) = next_head d (term_bytes type_bytes ref (Exn k)) ∷ []
    term_heads d (ExnOf k e) = next_head d (tag.term_exn ∷ k ∷ []) ∷ term_heads (suc d) e
    term_heads d (Tuple es) = next_head d (tag.term_tuple ∷ one_written (term_count es)) ∷ all_term_heads (suc d) es
    term_heads d (Nil T) = next_head d (tag.term_nil ∷ []) ∷ type_heads type_bytes T
    term_heads d (Empty T) = next_head d (tag.term_empty ∷ []) ∷ type_heads type_bytes T
    term_heads d (Present e) = next_head d (tag.term_present ∷ []) ∷ term_heads (suc d) e
    term_heads d (Cons a b) = next_head d (tag.term_cons ∷ []) ∷ term_heads (suc d) a ++ term_heads (suc d) b
    term_heads d (Var i) = next_head d (term_bytes type_bytes ref (Var i)) ∷ []
    term_heads d (Own f) = next_head d (term_bytes type_bytes ref (Own f)) ∷ []
    term_heads d (Ref j x) = next_head d (term_bytes type_bytes ref (Ref j x)) ∷ []
    term_heads d (Lam T e) = next_head d (tag.term_lam ∷ []) ∷ type_heads type_bytes T ++ term_heads (suc d) e
    term_heads d (Rec T U e) = next_head d (tag.term_rec ∷ []) ∷ type_heads type_bytes T ++ type_heads type_bytes U ++ term_heads (suc d) e
    term_heads d (App f a) = next_head d (tag.term_app ∷ []) ∷ term_heads (suc d) f ++ term_heads (suc d) a
    term_heads d (Let T e b) = next_head d (tag.term_let ∷ []) ∷ type_heads type_bytes T ++ term_heads (suc d) e ++ term_heads (suc d) b
    term_heads d (If c a b) = next_head d (tag.term_if ∷ []) ∷ term_heads (suc d) c ++ term_heads (suc d) a ++ term_heads (suc d) b
    term_heads d (Seq es) = next_head d (tag.term_seq ∷ four_written (term_count es)) ∷ all_term_heads (suc d) es
    term_heads d (Match e arms) = next_head d (tag.term_match ∷ []) ∷ term_heads (suc d) e ++ before (two_written (arm_count arms)) (arm_heads (suc d) arms)
    term_heads d (Try e arms) = next_head d (tag.term_try ∷ []) ∷ term_heads (suc d) e ++ before (two_written (arm_count arms)) (arm_heads (suc d) arms)
    term_heads d (Raise T e) = next_head d (tag.term_raise ∷ []) ∷ type_heads type_bytes T ++ term_heads (suc d) e
    term_heads d (Prim k es) = next_head d (tag.term_prim ∷ k ∷ []) ∷ all_term_heads (suc d) es
    term_heads d (Marshal T m e) = next_head d (tag.term_marshal ∷ []) ∷ type_heads type_bytes T ++ term_heads (suc d) m ++ term_heads (suc d) e
    term_heads d (Unmarshal T e) = next_head d (tag.term_unmarshal ∷ []) ∷ type_heads type_bytes T ++ term_heads (suc d) e
    term_heads d (Val T v) = next_head d (tag.term_val ∷ []) ∷ type_heads type_bytes T ++ value_heads (suc d) v
    term_heads d (Evaluated T v) = record (next_head d []) { travels = false } ∷ []
    term_heads d (Bracket c T e) = record (next_head d []) { travels = false } ∷ []

    pub all_term_heads : ℕ → Exprs → List Head
    all_term_heads d no_exprs = []
    all_term_heads d (expr e es) = term_heads d e ++ all_term_heads d es

    pub arm_heads : ℕ → Arms → List Head
    arm_heads d no_arms = []
    arm_heads d (arm p e rest) = pattern_heads type_bytes d p ++ term_heads d e ++ arm_heads d rest

    pub value_heads : ℕ → PValue → List Head
    value_heads d (KInt n) = next_head d (value_bytes type_bytes ref (KInt n)) ∷ []
    value_heads d (KBool b) = next_head d (value_bytes type_bytes ref (KBool b)) ∷ []
    value_heads d (KStr s) = next_head d (value_bytes type_bytes ref (KStr s)) ∷ []
    value_heads d KUnit = next_head d (value_bytes type_bytes ref KUnit) ∷ []
    value_heads d (KExn k s) = next_head d (value_bytes type_bytes ref (KExn k s)) ∷ []
    value_heads d (KTuple vs) = next_head d (tag.value_tuple ∷ one_written (value_count vs)) ∷ all_value_heads (suc d) vs
    value_heads d (KList vs) = next_head d (tag.value_list ∷ four_written (value_count vs)) ∷ all_value_heads (suc d) vs
    value_heads d KAbsent = next_head d (value_bytes type_bytes ref KAbsent) ∷ []
    value_heads d (KPresent v) = next_head d (tag.value_present ∷ []) ∷ value_heads (suc d) v
    -- a function that can't travel has no lambda
    value_heads d (KFun h l) = record (next_head d (tag.value_fun ∷ home_bytes h)) { travels = is_lambda l } ∷ term_heads (suc d) l

    pub all_value_heads : ℕ → PValues → List Head
    all_value_heads d no_pvalues = []
    all_value_heads d (pvalue v vs) = value_heads d v ++ all_value_heads d vs
