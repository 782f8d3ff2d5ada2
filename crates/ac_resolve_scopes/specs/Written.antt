-- The types, patterns and terms that trees write in a scope. Where a name isn't in scope, what is given for it is of no matter: such a surface is refused.
use Rattle.std.specs.Prelude.{true, false, List, [], ◌∷◌, ◌++◌, Option, Some, None, unwrap_or}
use Rattle.ac_types.specs.Types.{Typ, TInt, TBool, TStr, TUnit, TExn, TTuple, TList, TOpt, TFun, Typs, no_types, typ}
use Rattle.ac_terms.specs.Terms.{Pattern, PWild, PVar, PInt, PBool, PStr, PUnit, PTuple, PNil, PCons, PAbsent, PPresent, PExn, PExnOf, Patterns, no_patterns, pattern', Expr, Int, Boolean, Str, Unit', Exn, ExnOf, Tuple, Nil, Empty, Present, Cons, Var, Lam, Rec, App, Let, If, Seq, Match, Try, Raise, Prim, Marshal, Unmarshal, Exprs, no_exprs, expr, Arms, no_arms, arm}
use Rattle.ac_syntax.specs.Trees.{NameAt, TypeTree, TyInt, TyBool, TyStr, TyUnit, TyExn, TyLocal, TyOf, TyTuple, TyList, TyOpt, TyFun, TypeTrees, no_type_trees, type_tree, PatTree, PatWild, PatVar, PatInt, PatBool, PatStr, PatUnit, PatTuple, PatNil, PatCons, PatAbsent, PatPresent, PatExn, PatExnOf, PatTrees, no_pat_trees, pat_tree, Tree, ExInt, ExBool, ExStr, ExUnit, ExExn, ExExnOf, ExTuple, ExNil, ExAbsent, ExPresent, ExCons, ExVar, ExOf, ExFun, ExRec, ExApp, ExLet, ExLetRec, ExIf, ExSeq, ExMatch, ExTry, ExRaise, ExAnd, ExOr, ExOp, ExMarshal, ExUnmarshal, Trees, no_trees, tree, ArmTrees, no_arm_trees, arm_tree}
use Rattle.ac_resolve_scopes.specs.Standard.{NamedPrimitive, primitive_named}
use Rattle.ac_resolve_scopes.specs.Scopes.{NameScope, plain_type, dotted_type, plain_value, dotted_value, primitive_of, with_variables}

-- a type, in which abbreviations and manifest types are written out
abbrev mutual
  pub type_in : NameScope → TypeTree → Typ
  type_in S (TyInt at) = TInt
  type_in S (TyBool at) = TBool
  type_in S (TyStr at) = TStr
  type_in S (TyUnit at) = TUnit
  type_in S (TyExn at) = TExn
  type_in S (TyLocal at t) = unwrap_or (plain_type S t) TUnit
  type_in S (TyOf at m t) = unwrap_or (dotted_type S m.word t.word) TUnit
  type_in S (TyTuple at parts) = TTuple (types_in S parts)
  type_in S (TyList at item) = TList (type_in S item)
  type_in S (TyOpt at item) = TOpt (type_in S item)
  type_in S (TyFun at from to) = TFun (type_in S from) (type_in S to)

  pub types_in : NameScope → TypeTrees → Typs
  types_in S no_type_trees = no_types
  types_in S (type_tree t ts) = typ (type_in S t) (types_in S ts)

abbrev mutual
  pub pattern_in : NameScope → PatTree → Pattern
  pattern_in S (PatWild at) = PWild
  pattern_in S (PatVar at name ty) = PVar (type_in S ty)
  pattern_in S (PatInt at n) = PInt n
  pattern_in S (PatBool at b) = PBool b
  pattern_in S (PatStr at text) = PStr text
  pattern_in S (PatUnit at) = PUnit
  pattern_in S (PatTuple at parts) = PTuple (patterns_in S parts)
  pattern_in S (PatNil at) = PNil
  pattern_in S (PatCons at head tail) = PCons (pattern_in S head) (pattern_in S tail)
  pattern_in S (PatAbsent at) = PAbsent
  pattern_in S (PatPresent at item) = PPresent (pattern_in S item)
  pattern_in S (PatExn at number) = PExn number
  pattern_in S (PatExnOf at number item) = PExnOf number (pattern_in S item)

  pub patterns_in : NameScope → PatTrees → Patterns
  patterns_in S no_pat_trees = no_patterns
  patterns_in S (pat_tree p ps) = pattern' (pattern_in S p) (patterns_in S ps)

-- the variables of a pattern, from left to right
abbrev mutual
  pub pattern_names : PatTree → List NameAt
  pattern_names (PatVar at name ty) = name ∷ []
  pattern_names (PatTuple at parts) = pattern_names_of_all parts
  pattern_names (PatCons at head tail) = pattern_names head ++ pattern_names tail
  pattern_names (PatPresent at item) = pattern_names item
  pattern_names (PatExnOf at number item) = pattern_names item
  pattern_names (PatWild at) = []
  pattern_names (PatInt at n) = []
  pattern_names (PatBool at b) = []
  pattern_names (PatStr at text) = []
  pattern_names (PatUnit at) = []
  pattern_names (PatNil at) = []
  pattern_names (PatAbsent at) = []
  pattern_names (PatExn at number) = []

  pub pattern_names_of_all : PatTrees → List NameAt
  pattern_names_of_all no_pat_trees = []
  pattern_names_of_all (pat_tree p ps) = pattern_names p ++ pattern_names_of_all ps

-- the scopes of bodies: of a function with a name, whose argument is the newest; of an arm, whose variables are bound from left to right
abbrev pub in_function : NameAt → NameAt → NameScope → NameScope
in_function f x = with_variables (f ∷ x ∷ [])

abbrev pub in_arm : PatTree → NameScope → NameScope
in_arm p = with_variables (pattern_names p)

-- the primitive that a tree names; an applied one takes its argument
abbrev pub primitive_at : Tree → Option NamedPrimitive
primitive_at (ExOf at m x) = primitive_named m.word x.word
primitive_at _ = None

abbrev pub applied_tree : Option NamedPrimitive → Expr → Expr → Expr
applied_tree (Some p) f a = primitive_of p a
applied_tree None f a = App f a

abbrev mutual
  pub term_in : NameScope → Tree → Expr
  term_in S (ExInt at n) = Int n
  term_in S (ExBool at b) = Boolean b
  term_in S (ExStr at text) = Str text
  term_in S (ExUnit at) = Unit'
  term_in S (ExExn at number) = Exn number
  term_in S (ExExnOf at number a) = ExnOf number (term_in S a)
  term_in S (ExTuple at parts) = Tuple (terms_in S parts)
  term_in S (ExNil at T) = Nil (type_in S T)
  term_in S (ExAbsent at T) = Empty (type_in S T)
  term_in S (ExPresent at a) = Present (term_in S a)
  term_in S (ExCons at a b) = Cons (term_in S a) (term_in S b)
  term_in S (ExVar at x) = unwrap_or (plain_value S x) (Var 0)
  term_in S (ExOf at m x) = unwrap_or (dotted_value S m.word x.word) Unit'
  term_in S (ExFun at x T b) = Lam (type_in S T) (term_in (with_variables (x ∷ []) S) b)
  term_in S (ExRec at f x T U b) = Rec (type_in S T) (type_in S U) (term_in (in_function f x S) b)
  term_in S (ExApp at f a) = applied_tree (primitive_at f) (term_in S f) (term_in S a)
  term_in S (ExLet at x T a b) = Let (type_in S T) (term_in S a) (term_in (with_variables (x ∷ []) S) b)
  term_in S (ExLetRec at f x T U a b) = Let (TFun (type_in S T) (type_in S U)) (Rec (type_in S T) (type_in S U) (term_in (in_function f x S) a)) (term_in (with_variables (f ∷ []) S) b)
  term_in S (ExIf at c a b) = If (term_in S c) (term_in S a) (term_in S b)
  term_in S (ExSeq at parts) = Seq (terms_in S parts)
  term_in S (ExMatch at a arms) = Match (term_in S a) (arms_in S arms)
  term_in S (ExTry at a arms) = Try (term_in S a) (arms_in S arms)
  term_in S (ExRaise at a T) = Raise (type_in S T) (term_in S a)
  term_in S (ExAnd at a b) = If (term_in S a) (term_in S b) (Boolean false)
  term_in S (ExOr at a b) = If (term_in S a) (Boolean true) (term_in S b)
  term_in S (ExOp at number parts) = Prim number (terms_in S parts)
  term_in S (ExMarshal at a b T) = Marshal (type_in S T) (term_in S a) (term_in S b)
  term_in S (ExUnmarshal at a T) = Unmarshal (type_in S T) (term_in S a)

  pub terms_in : NameScope → Trees → Exprs
  terms_in S no_trees = no_exprs
  terms_in S (tree t ts) = expr (term_in S t) (terms_in S ts)

  pub arms_in : NameScope → ArmTrees → Arms
  arms_in S no_arm_trees = no_arms
  arms_in S (arm_tree p b arms) = arm (pattern_in S p) (term_in (in_arm p S) b) (arms_in S arms)
