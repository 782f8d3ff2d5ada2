-- How many lambdas stand in a term, and how many instructions its code has.
use Rattle.std.specs.Prelude.{ℕ, zero, suc, ◌+◌, List, [], ◌∷◌, length, Option, Some, None}
use Rattle.ac_code.specs.Code as instr
use Rattle.ac_code.specs.Code.{Instr}
use Rattle.ac_terms.specs.Terms.{Pattern, Expr, Int, Boolean, Str, Unit', Exn, ExnOf, Tuple, Nil, Empty, Present, Cons, Var, Own, Ref, Lam, Rec, App, Let, If, Seq, Match, Try, Raise, Prim, Marshal, Unmarshal, Val, Evaluated, Bracket, Exprs, no_exprs, expr, Arms, no_arms, arm, PValue, KInt, KBool, KStr, KUnit, KExn, KTuple, KList, KAbsent, KPresent, KFun, PValues, no_pvalues, pvalue}
use Rattle.ac_terms.specs.Parts.{pattern_types}
use Rattle.ac_terms.specs.Spelling.{value_count}

-- the lambdas of a term, those of packed functions included
abbrev mutual
  pub lambdas : Expr → ℕ
  lambdas (ExnOf k e) = lambdas e
  lambdas (Tuple es) = all_lambdas es
  lambdas (Present e) = lambdas e
  lambdas (Cons a b) = lambdas a + lambdas b
  lambdas (Lam T e) = lambdas e + 1
  lambdas (Rec T U e) = lambdas e + 1
  lambdas (App f a) = lambdas f + lambdas a
  lambdas (Let T e b) = lambdas e + lambdas b
  lambdas (If c a b) = lambdas c + (lambdas a + lambdas b)
  lambdas (Seq es) = all_lambdas es
  lambdas (Match e arms) = lambdas e + arm_lambdas arms
  lambdas (Try e arms) = lambdas e + arm_lambdas arms
  lambdas (Raise T e) = lambdas e
  lambdas (Prim k es) = all_lambdas es
  lambdas (Marshal T m e) = lambdas m + lambdas e
  lambdas (Unmarshal T e) = lambdas e
  lambdas (Val T v) = value_lambdas v
  lambdas (Int i) = 0
  lambdas (Boolean b) = 0
  lambdas (Str s) = 0
  lambdas Unit' = 0
  lambdas (Exn k) = 0
  lambdas (Nil T) = 0
  lambdas (Empty T) = 0
  lambdas (Var i) = 0
  lambdas (Own f) = 0
  lambdas (Ref j x) = 0
  lambdas (Evaluated T v) = 0
  lambdas (Bracket h T e) = 0

  pub all_lambdas : Exprs → ℕ
  all_lambdas no_exprs = 0
  all_lambdas (expr e es) = lambdas e + all_lambdas es

  pub arm_lambdas : Arms → ℕ
  arm_lambdas no_arms = 0
  arm_lambdas (arm p b rest) = lambdas b + arm_lambdas rest

  -- a packed function is a lambda or a recursive lambda
  pub value_lambdas : PValue → ℕ
  value_lambdas (KTuple vs) = all_value_lambdas vs
  value_lambdas (KList vs) = all_value_lambdas vs
  value_lambdas (KPresent v) = value_lambdas v
  value_lambdas (KFun h (Lam T e)) = lambdas e + 1
  value_lambdas (KFun h (Rec T U e)) = lambdas e + 1
  value_lambdas (KFun h e) = 0
  value_lambdas (KInt i) = 0
  value_lambdas (KBool b) = 0
  value_lambdas (KStr s) = 0
  value_lambdas KUnit = 0
  value_lambdas (KExn k s) = 0
  value_lambdas KAbsent = 0

  pub all_value_lambdas : PValues → ℕ
  all_value_lambdas no_pvalues = 0
  all_value_lambdas (pvalue v vs) = value_lambdas v + all_value_lambdas vs

-- how many variables a pattern binds
abbrev pub variable_count : Pattern → ℕ
variable_count p = length (pattern_types p)

-- what drops that many variables
abbrev pub unbind : ℕ → List Instr
unbind zero = []
unbind (suc k) = instr.Unbind (suc k) ∷ []

-- the text of an exception, where it has one
abbrev pub push_text : Option (List ℕ) → List Instr
push_text None = []
push_text (Some s) = instr.PushStr s ∷ []

-- the instructions of a term; a term of the reduction alone has none
abbrev mutual
  pub size : Expr → ℕ
  size (Int n) = 1
  size (Boolean b) = 1
  size (Str s) = 1
  size Unit' = 1
  size (Exn k) = 1
  size (ExnOf k e) = size e + 1
  size (Tuple es) = all_size es + 1
  size (Nil T) = 1
  size (Empty T) = 1
  size (Present e) = size e + 1
  size (Cons a b) = size a + (size b + 1)
  size (Var i) = 1
  size (Own f) = 1
  size (Ref j x) = 1
  size (Lam T e) = 1
  size (Rec T U e) = 1
  size (App f a) = size f + (size a + 1)
  size (Let T e b) = size e + (1 + (size b + 1))
  size (If c a b) = size c + (1 + (size a + (1 + size b)))
  size (Seq es) = seq_size es
  size (Match e arms) = size e + (arm_size arms + 1)
  size (Try e arms) = 1 + (size e + (2 + (arm_size arms + 1)))
  size (Raise T e) = size e + 1
  size (Prim k es) = all_size es + 1
  size (Marshal T m e) = size m + (size e + 1)
  size (Unmarshal T e) = size e + 1
  size (Val T v) = value_size v
  size (Evaluated T v) = 0
  size (Bracket h T e) = 0

  pub all_size : Exprs → ℕ
  all_size no_exprs = 0
  all_size (expr e es) = size e + all_size es

  -- the parts of a sequence, with a drop between two of them
  pub seq_size : Exprs → ℕ
  seq_size no_exprs = 0
  seq_size (expr e es) = size e + rest_size es

  pub rest_size : Exprs → ℕ
  rest_size no_exprs = 0
  rest_size (expr e es) = 1 + (size e + rest_size es)

  -- per arm a test, the body, an unbind where variables were bound, and a jump
  pub arm_size : Arms → ℕ
  arm_size no_arms = 0
  arm_size (arm p b rest) = 1 + (size b + (length (unbind (variable_count p)) + (1 + arm_size rest)))

  pub value_size : PValue → ℕ
  value_size (KInt n) = 1
  value_size (KBool b) = 1
  value_size (KStr s) = 1
  value_size KUnit = 1
  value_size (KExn k s) = length (push_text s) + 1
  value_size (KTuple vs) = all_value_size vs + 1
  value_size (KList vs) = all_value_size vs + (1 + value_count vs)
  value_size KAbsent = 1
  value_size (KPresent v) = value_size v + 1
  value_size (KFun h (Lam T e)) = 1
  value_size (KFun h (Rec T U e)) = 1
  value_size (KFun h e) = 0

  pub all_value_size : PValues → ℕ
  all_value_size no_pvalues = 0
  all_value_size (pvalue v vs) = value_size v + all_value_size vs
