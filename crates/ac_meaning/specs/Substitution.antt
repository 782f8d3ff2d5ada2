-- Values written for the variables of a term.
use Rattle.std.specs.Prelude.{ℕ, zero, suc, ◌+◌, List, [], ◌∷◌}
use Rattle.ac_types.specs.Types.{Typ}
use Rattle.ac_terms.specs.Terms.{Pattern, PWild, PVar, PInt, PBool, PStr, PUnit, PTuple, PNil, PCons, PAbsent, PPresent, PExn, PExnOf, Patterns, no_patterns, pattern', Expr, Int, Boolean, Str, Unit', Exn, ExnOf, Tuple, Nil, Empty, Present, Cons, Var, Own, Ref, Lam, Rec, App, Let, If, Seq, Match, Try, Raise, Prim, Marshal, Unmarshal, Val, Evaluated, Bracket, Exprs, no_exprs, expr, Arms, no_arms, arm, Value}

-- what comes in the place of a variable: another variable, or a value with the variable's type
pub data Slot (V : Type 0) : Type 0 where
  Free : ℕ → Slot V
  Bound : Typ → V → Slot V

abbrev pub up : {V : Type 0} → Slot V → Slot V
up (Free i) = Free (suc i)
up (Bound T v) = Bound T v

-- variable i, where these values are for the first variables, the newest first; those further out move down
abbrev pub slot_in : {V : Type 0} → List (Typ × V) → ℕ → Slot V
slot_in [] i = Free i
slot_in (w ∷ ws) zero = Bound w.0 w.1
slot_in (w ∷ ws) (suc i) = slot_in ws i

-- under d binders, whose variables stay
abbrev pub slot : {V : Type 0} → ℕ → List (Typ × V) → ℕ → Slot V
slot zero ws i = slot_in ws i
slot (suc d) ws zero = Free zero
slot (suc d) ws (suc i) = up (slot d ws i)

-- values for variables, each with its variable's type, the newest variable first
abbrev pub Written : Type 0
Written = List (Typ × Value)

abbrev pub from_slot : Slot Value → Expr
from_slot (Free i) = Var i
from_slot (Bound T v) = Evaluated T v

-- how many variables a pattern binds
abbrev mutual
  pub binders : Pattern → ℕ
  binders (PVar T) = 1
  binders (PTuple ps) = all_binders ps
  binders (PCons p q) = binders p + binders q
  binders (PPresent p) = binders p
  binders (PExnOf k p) = binders p
  binders PWild = 0
  binders (PInt n) = 0
  binders (PBool b) = 0
  binders (PStr s) = 0
  binders PUnit = 0
  binders PNil = 0
  binders PAbsent = 0
  binders (PExn k) = 0

  pub all_binders : Patterns → ℕ
  all_binders no_patterns = 0
  all_binders (pattern' p ps) = binders p + all_binders ps

-- a term with values written for the variables beyond those of d binders. What stands in a bracket is closed, and is left as it is
abbrev mutual
  pub inst : ℕ → Written → Expr → Expr
  inst d ws (Int n) = Int n
  inst d ws (Boolean b) = Boolean b
  inst d ws (Str s) = Str s
  inst d ws Unit' = Unit'
  inst d ws (Exn k) = Exn k
  inst d ws (ExnOf k e) = ExnOf k (inst d ws e)
  inst d ws (Tuple es) = Tuple (inst_all d ws es)
  inst d ws (Nil T) = Nil T
  inst d ws (Empty T) = Empty T
  inst d ws (Present e) = Present (inst d ws e)
  inst d ws (Cons a b) = Cons (inst d ws a) (inst d ws b)
  inst d ws (Var i) = from_slot (slot d ws i)
  inst d ws (Own f) = Own f
  inst d ws (Ref j x) = Ref j x
  inst d ws (Lam T e) = Lam T (inst (suc d) ws e)
  inst d ws (Rec T U e) = Rec T U (inst (suc (suc d)) ws e)
  inst d ws (App f a) = App (inst d ws f) (inst d ws a)
  inst d ws (Let T e b) = Let T (inst d ws e) (inst (suc d) ws b)
  inst d ws (If c a b) = If (inst d ws c) (inst d ws a) (inst d ws b)
  inst d ws (Seq es) = Seq (inst_all d ws es)
  inst d ws (Match e arms) = Match (inst d ws e) (inst_arms d ws arms)
  inst d ws (Try e arms) = Try (inst d ws e) (inst_arms d ws arms)
  inst d ws (Raise T e) = Raise T (inst d ws e)
  inst d ws (Prim k es) = Prim k (inst_all d ws es)
  inst d ws (Marshal T m e) = Marshal T (inst d ws m) (inst d ws e)
  inst d ws (Unmarshal T e) = Unmarshal T (inst d ws e)
  inst d ws (Val T v) = Val T v
  inst d ws (Evaluated T v) = Evaluated T v
  inst d ws (Bracket c T e) = Bracket c T e

  pub inst_all : ℕ → Written → Exprs → Exprs
  inst_all d ws no_exprs = no_exprs
  inst_all d ws (expr e es) = expr (inst d ws e) (inst_all d ws es)

  pub inst_arms : ℕ → Written → Arms → Arms
  inst_arms d ws no_arms = no_arms
  inst_arms d ws (arm p e rest) = arm p (inst (binders p + d) ws e) (inst_arms d ws rest)
