-- A term, a value or a definition with other numbers for the definitions that it speaks of.
use Rattle.std.specs.Prelude.{ℕ, map}
use Rattle.ac_terms.specs.Terms.{Home, Main, In, Expr, Int, Boolean, Str, Unit', Exn, ExnOf, Tuple, Nil, Empty, Present, Cons, Var, Own, Ref, Lam, Rec, App, Let, If, Seq, Match, Try, Raise, Prim, Marshal, Unmarshal, Val, Evaluated, Bracket, Exprs, no_exprs, expr, Arms, no_arms, arm, PValue, KInt, KBool, KStr, KUnit, KExn, KTuple, KList, KAbsent, KPresent, KFun, PValues, no_pvalues, pvalue}
use Rattle.ac_terms.specs.Defs.{Field, Def, AModule, AnImport, AMark}

abbrev pub home_by : (ℕ → ℕ) → Home → Home
home_by f Main = Main
home_by f (In k) = In (f k)

-- references and homes have other numbers
abbrev mutual
  pub renumbered : (ℕ → ℕ) → Expr → Expr
  renumbered f (Int n) = Int n
  renumbered f (Boolean b) = Boolean b
  renumbered f (Str s) = Str s
  renumbered f Unit' = Unit'
  renumbered f (Exn k) = Exn k
  renumbered f (ExnOf k e) = ExnOf k (renumbered f e)
  renumbered f (Tuple es) = Tuple (all_renumbered f es)
  renumbered f (Nil T) = Nil T
  renumbered f (Empty T) = Empty T
  renumbered f (Present e) = Present (renumbered f e)
  renumbered f (Cons a b) = Cons (renumbered f a) (renumbered f b)
  renumbered f (Var i) = Var i
  renumbered f (Own k) = Own k
  renumbered f (Ref j x) = Ref (f j) x
  renumbered f (Lam T e) = Lam T (renumbered f e)
  renumbered f (Rec T U e) = Rec T U (renumbered f e)
  renumbered f (App g a) = App (renumbered f g) (renumbered f a)
  renumbered f (Let T e b) = Let T (renumbered f e) (renumbered f b)
  renumbered f (If c a b) = If (renumbered f c) (renumbered f a) (renumbered f b)
  renumbered f (Seq es) = Seq (all_renumbered f es)
  renumbered f (Match e arms) = Match (renumbered f e) (arms_renumbered f arms)
  renumbered f (Try e arms) = Try (renumbered f e) (arms_renumbered f arms)
  renumbered f (Raise T e) = Raise T (renumbered f e)
  renumbered f (Prim k es) = Prim k (all_renumbered f es)
  renumbered f (Marshal T m e) = Marshal T (renumbered f m) (renumbered f e)
  renumbered f (Unmarshal T e) = Unmarshal T (renumbered f e)
  renumbered f (Val T v) = Val T (value_renumbered f v)
  renumbered f (Evaluated T v) = Evaluated T v
  renumbered f (Bracket c T e) = Bracket c T e

  pub all_renumbered : (ℕ → ℕ) → Exprs → Exprs
  all_renumbered f no_exprs = no_exprs
  all_renumbered f (expr e es) = expr (renumbered f e) (all_renumbered f es)

  pub arms_renumbered : (ℕ → ℕ) → Arms → Arms
  arms_renumbered f no_arms = no_arms
  arms_renumbered f (arm p e rest) = arm p (renumbered f e) (arms_renumbered f rest)

  pub value_renumbered : (ℕ → ℕ) → PValue → PValue
  value_renumbered f (KInt n) = KInt n
  value_renumbered f (KBool b) = KBool b
  value_renumbered f (KStr s) = KStr s
  value_renumbered f KUnit = KUnit
  value_renumbered f (KExn k s) = KExn k s
  value_renumbered f (KTuple vs) = KTuple (values_renumbered f vs)
  value_renumbered f (KList vs) = KList (values_renumbered f vs)
  value_renumbered f KAbsent = KAbsent
  value_renumbered f (KPresent v) = KPresent (value_renumbered f v)
  value_renumbered f (KFun h l) = KFun (home_by f h) (renumbered f l)

  pub values_renumbered : (ℕ → ℕ) → PValues → PValues
  values_renumbered f no_pvalues = no_pvalues
  values_renumbered f (pvalue v vs) = pvalue (value_renumbered f v) (values_renumbered f vs)

abbrev pub field_renumbered : (ℕ → ℕ) → Field → Field
field_renumbered f x = record x { term = renumbered f x.term }

abbrev pub def_renumbered : (ℕ → ℕ) → Def → Def
def_renumbered f (AModule m) = AModule (record m { fields = map (field_renumbered f) m.fields })
def_renumbered f (AnImport i) = AnImport i
def_renumbered f (AMark t) = AMark t
