-- Captured values, functions of packed values, and the terms of the code: no value of the reduction and no bracket stands in them.
use Rattle.std.specs.Prelude.{Bool, true, false, ◌&&◌, List}
use Rattle.ac_types.specs.Types.{Typ}
use Rattle.ac_types.specs.Partial.{agree}
use Rattle.ac_terms.specs.Terms.{Home, Expr, Int, Boolean, Str, Unit', Exn, ExnOf, Tuple, Nil, Empty, Present, Cons, Var, Own, Ref, Lam, Rec, App, Let, If, Seq, Match, Try, Raise, Prim, Marshal, Unmarshal, Val, Evaluated, Bracket, Exprs, no_exprs, expr, Arms, no_arms, arm}
use Rattle.ac_terms.specs.Defs.{Environment}
use Rattle.ac_rules.specs.Views.{Coloured, head}
use Rattle.ac_rules.specs.Typing.{type_of, all_of, type_seen, holds, is_function, is_function_home}

-- whether a function has in a home a type as that home sees it, where the variables around it are of these types, and each captured value counts as of the type beside it
abbrev pub declared_agrees : Environment → Home → List Typ → Expr → Typ → Bool
declared_agrees E h Vs l T = agree (type_of Coloured true E (record (all_of E h) { vars = Vs }) l) (type_seen Coloured true E h T)

-- whether a function may travel at a type that is as it is at the top, and at a type, where the variables around it are of these types
abbrev pub travels_as : Environment → Home → List Typ → Expr → Typ → Bool
travels_as E h Vs l H = is_function H && is_function_home E h && declared_agrees E h Vs l H

abbrev pub travels_with : Environment → Home → List Typ → Expr → Typ → Bool
travels_with E h Vs l T = travels_as E h Vs l (head E T)

-- whether each captured value of a term is of the type beside it
module _ (E : Environment) where
  abbrev mutual
    pub captured_hold : Expr → Bool
    captured_hold (Int n) = true
    captured_hold (Boolean b) = true
    captured_hold (Str s) = true
    captured_hold Unit' = true
    captured_hold (Exn k) = true
    captured_hold (ExnOf k e) = captured_hold e
    captured_hold (Tuple es) = all_captured_hold es
    captured_hold (Nil T) = true
    captured_hold (Empty T) = true
    captured_hold (Present e) = captured_hold e
    captured_hold (Cons a b) = captured_hold a && captured_hold b
    captured_hold (Var i) = true
    captured_hold (Own f) = true
    captured_hold (Ref j x) = true
    captured_hold (Lam T e) = captured_hold e
    captured_hold (Rec T U e) = captured_hold e
    captured_hold (App f a) = captured_hold f && captured_hold a
    captured_hold (Let T e b) = captured_hold e && captured_hold b
    captured_hold (If c a b) = captured_hold c && (captured_hold a && captured_hold b)
    captured_hold (Seq es) = all_captured_hold es
    captured_hold (Match e arms) = captured_hold e && arms_captured_hold arms
    captured_hold (Try e arms) = captured_hold e && arms_captured_hold arms
    captured_hold (Raise T e) = captured_hold e
    captured_hold (Prim k es) = all_captured_hold es
    captured_hold (Marshal T m e) = captured_hold m && captured_hold e
    captured_hold (Unmarshal T e) = captured_hold e
    captured_hold (Val T v) = holds Coloured false E v T
    captured_hold (Evaluated T v) = false
    captured_hold (Bracket c T e) = false

    pub all_captured_hold : Exprs → Bool
    all_captured_hold no_exprs = true
    all_captured_hold (expr e es) = captured_hold e && all_captured_hold es

    pub arms_captured_hold : Arms → Bool
    arms_captured_hold no_arms = true
    arms_captured_hold (arm p e rest) = captured_hold e && arms_captured_hold rest

-- whether a term is one of the code
abbrev mutual
  pub is_code : Expr → Bool
  is_code (Int n) = true
  is_code (Boolean b) = true
  is_code (Str s) = true
  is_code Unit' = true
  is_code (Exn k) = true
  is_code (ExnOf k e) = is_code e
  is_code (Tuple es) = are_code es
  is_code (Nil T) = true
  is_code (Empty T) = true
  is_code (Present e) = is_code e
  is_code (Cons a b) = is_code a && is_code b
  is_code (Var i) = true
  is_code (Own f) = true
  is_code (Ref j x) = true
  is_code (Lam T e) = is_code e
  is_code (Rec T U e) = is_code e
  is_code (App f a) = is_code f && is_code a
  is_code (Let T e b) = is_code e && is_code b
  is_code (If c a b) = is_code c && (is_code a && is_code b)
  is_code (Seq es) = are_code es
  is_code (Match e arms) = is_code e && arms_are_code arms
  is_code (Try e arms) = is_code e && arms_are_code arms
  is_code (Raise T e) = is_code e
  is_code (Prim k es) = are_code es
  is_code (Marshal T m e) = is_code m && is_code e
  is_code (Unmarshal T e) = is_code e
  is_code (Val T v) = true
  is_code (Evaluated T v) = false
  is_code (Bracket c T e) = false

  pub are_code : Exprs → Bool
  are_code no_exprs = true
  are_code (expr e es) = is_code e && are_code es

  pub arms_are_code : Arms → Bool
  arms_are_code no_arms = true
  arms_are_code (arm p e rest) = is_code e && arms_are_code rest
