-- How far values, terms and patterns nest: their nodes on the longest path down.
use Rattle.std.specs.Prelude.{ℕ, ◌+◌, max}
use Rattle.ac_terms.specs.Terms.{Pattern, PWild, PVar, PInt, PBool, PStr, PUnit, PTuple, PNil, PCons, PAbsent, PPresent, PExn, PExnOf, Patterns, no_patterns, pattern', Expr, Int, Boolean, Str, Unit', Exn, ExnOf, Tuple, Nil, Empty, Present, Cons, Var, Own, Ref, Lam, Rec, App, Let, If, Seq, Match, Try, Raise, Prim, Marshal, Unmarshal, Val, Evaluated, Bracket, Exprs, no_exprs, expr, Arms, no_arms, arm, PValue, KInt, KBool, KStr, KUnit, KExn, KTuple, KList, KAbsent, KPresent, KFun, PValues, no_pvalues, pvalue}

abbrev mutual
  pub pattern_nesting : Pattern → ℕ
  pattern_nesting PWild = 1
  pattern_nesting (PVar T) = 1
  pattern_nesting (PInt n) = 1
  pattern_nesting (PBool b) = 1
  pattern_nesting (PStr s) = 1
  pattern_nesting PUnit = 1
  pattern_nesting (PTuple ps) = pattern_depth ps + 1
  pattern_nesting PNil = 1
  pattern_nesting (PCons p q) = max (pattern_nesting p) (pattern_nesting q) + 1
  pattern_nesting PAbsent = 1
  pattern_nesting (PPresent p) = pattern_nesting p + 1
  pattern_nesting (PExn k) = 1
  pattern_nesting (PExnOf k p) = pattern_nesting p + 1

  pub pattern_depth : Patterns → ℕ
  pattern_depth no_patterns = 0
  pattern_depth (pattern' p ps) = max (pattern_nesting p) (pattern_depth ps)

abbrev mutual
  pub nesting : Expr → ℕ
  nesting (Int n) = 1
  nesting (Boolean b) = 1
  nesting (Str s) = 1
  nesting Unit' = 1
  nesting (Exn k) = 1
  nesting (ExnOf k e) = nesting e + 1
  nesting (Tuple es) = depth es + 1
  nesting (Nil T) = 1
  nesting (Empty T) = 1
  nesting (Present e) = nesting e + 1
  nesting (Cons a b) = max (nesting a) (nesting b) + 1
  nesting (Var i) = 1
  nesting (Own f) = 1
  nesting (Ref j x) = 1
  nesting (Lam T e) = nesting e + 1
  nesting (Rec T U e) = nesting e + 1
  nesting (App f a) = max (nesting f) (nesting a) + 1
  nesting (Let T e b) = max (nesting e) (nesting b) + 1
  nesting (If c a b) = max (nesting c) (max (nesting a) (nesting b)) + 1
  nesting (Seq es) = depth es + 1
  nesting (Match e arms) = max (nesting e) (arm_depth arms) + 1
  nesting (Try e arms) = max (nesting e) (arm_depth arms) + 1
  nesting (Raise T e) = nesting e + 1
  nesting (Prim k es) = depth es + 1
  nesting (Marshal T m e) = max (nesting m) (nesting e) + 1
  nesting (Unmarshal T e) = nesting e + 1
  nesting (Val T v) = value_nesting v + 1
  nesting (Evaluated T v) = 1
  nesting (Bracket c T e) = 1

  pub depth : Exprs → ℕ
  depth no_exprs = 0
  depth (expr e es) = max (nesting e) (depth es)

  pub arm_depth : Arms → ℕ
  arm_depth no_arms = 0
  arm_depth (arm p e rest) = max (pattern_nesting p) (max (nesting e) (arm_depth rest))

  pub value_nesting : PValue → ℕ
  value_nesting (KInt n) = 1
  value_nesting (KBool b) = 1
  value_nesting (KStr s) = 1
  value_nesting KUnit = 1
  value_nesting (KExn k s) = 1
  value_nesting (KTuple vs) = value_depth vs + 1
  value_nesting (KList vs) = value_depth vs + 1
  value_nesting KAbsent = 1
  value_nesting (KPresent v) = value_nesting v + 1
  value_nesting (KFun h l) = nesting l + 1

  pub value_depth : PValues → ℕ
  value_depth no_pvalues = 0
  value_depth (pvalue v vs) = max (value_nesting v) (value_depth vs)
