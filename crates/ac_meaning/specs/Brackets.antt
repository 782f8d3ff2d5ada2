-- Brackets: how a value comes from one home to another.
use Rattle.std.specs.Prelude.{◌&&◌, Bool, true, false, Option, Some, None, option_map, is_some, cond}
use Rattle.ac_types.specs.Types.{Bytes, Typ, TInt, TBool, TStr, TUnit, TExn, TTuple, TList, TOpt, TFun, TAbs, TMine, Typs, no_types, typ, same_bytes}
use Rattle.ac_terms.specs.Terms.{Home, Expr, Tuple, Nil, Empty, Present, Cons, Evaluated, Bracket, Exprs, no_exprs, expr, Value, VInt, VBool, VStr, VUnit, VExn, VTuple, VNil, VCons, VAbsent, VPresent, VLam, VRec, VProxy, VSeal, Values, no_values, value}
use Rattle.ac_terms.specs.Defs.{Environment}
use Rattle.ac_rules.specs.Views.{Mode, opens, representation}
use Rattle.ac_meaning.specs.Acts.{Act, Is, Goes, Wrong, becomes}

-- the bracket of home b at type T round a value
abbrev pub enclosed : Home → Typ → Value → Expr
enclosed b T v = Bracket b T (Evaluated T v)

-- a bracket round each part of a tuple
abbrev pub all_enclosed : Home → Typs → Values → Option Exprs
all_enclosed b no_types no_values = Some no_exprs
all_enclosed b (typ T Ts) (value v vs) = option_map (expr (enclosed b T v)) (all_enclosed b Ts vs)
all_enclosed _ _ _ = None

abbrev pub is_function_value : Value → Bool
is_function_value (VLam T e) = true
is_function_value (VRec T U e) = true
is_function_value (VProxy b T U f) = true
is_function_value _ = false

-- what is inside a seal at n.t, with its home
abbrev pub inside_seal : Bytes → Bytes → Value → Option (Home × Value)
inside_seal n t (VSeal d m u w) = cond (same_bytes m n && same_bytes u t) (Some (d, w)) None
inside_seal _ _ _ = None

-- a bracket of the seal's home
abbrev pub unsealed_term : Option (Home × Value) → Option Typ → Option Expr
unsealed_term (Some p) (Some T) = Some (enclosed p.0 T p.1)
unsealed_term _ _ = None

-- `Bracket(b, n.t, v)` in a home, where n.t is R, by whether b opens n and whether the home does
abbrev pub at_name : Home → Bytes → Bytes → Option Typ → Value → Bool → Bool → Act Expr Value
-- both do: n.t becomes R
at_name b n t R v true true = becomes (option_map (λ T. enclosed b T v) R)
-- b alone does: v is sealed
at_name b n t R v true false = Goes (Evaluated (TAbs n t) (VSeal b n t v))
-- the home alone does: the seal is taken off, and its home takes the place of b
at_name b n t R v false true = becomes (unsealed_term (inside_seal n t v) R)
-- neither does: the seal stays
at_name b n t R v false false = cond (is_some (inside_seal n t v)) (Goes (Evaluated (TAbs n t) v)) Wrong

-- `Bracket(b, T, v)` in home c, by the head of T
module _ (mode : Mode) (E : Environment) where
  abbrev pub bracket_step : Home → Home → Typ → Value → Act Expr Value
  -- a constant is the same in each home
  bracket_step b c TInt (VInt n) = Goes (Evaluated TInt (VInt n))
  bracket_step b c TInt v = Wrong
  bracket_step b c TBool (VBool x) = Goes (Evaluated TBool (VBool x))
  bracket_step b c TBool v = Wrong
  bracket_step b c TStr (VStr s) = Goes (Evaluated TStr (VStr s))
  bracket_step b c TStr v = Wrong
  bracket_step b c TUnit VUnit = Goes (Evaluated TUnit VUnit)
  bracket_step b c TUnit v = Wrong
  bracket_step b c TExn (VExn k s) = Goes (Evaluated TExn (VExn k s))
  bracket_step b c TExn v = Wrong
  -- the bracket goes to each part
  bracket_step b c (TTuple Ts) (VTuple vs) = becomes (option_map Tuple (all_enclosed b Ts vs))
  bracket_step b c (TTuple Ts) v = Wrong
  bracket_step b c (TList T) (VNil U) = Goes (Nil (TList T))
  bracket_step b c (TList T) (VCons v w) = Goes (Cons (enclosed b T v) (enclosed b (TList T) w))
  bracket_step b c (TList T) v = Wrong
  bracket_step b c (TOpt T) (VAbsent U) = Goes (Empty (TOpt T))
  bracket_step b c (TOpt T) (VPresent v) = Goes (Present (enclosed b T v))
  bracket_step b c (TOpt T) v = Wrong
  -- a function in a bracket is a proxy, which is a value
  bracket_step b c (TFun T U) v = cond (is_function_value v) (Is (VProxy b T U v)) Wrong
  bracket_step b c (TAbs n t) v = at_name b n t (representation E n t) v (opens mode E b n) (opens mode E c n)
  bracket_step b c (TMine t) v = Wrong
