-- Which values a pattern fits.
use Rattle.std.specs.Prelude.{nat_eq, [], ◌∷◌, Option, Some, None, option_and_then, option_map}
use Rattle.std.specs.Option.{option_or}
use Rattle.ac_types.specs.Partial.{given}
use Rattle.ac_types.specs.Types.{same_bytes}
use Rattle.ac_terms.specs.Terms.{Pattern, PWild, PVar, PInt, PBool, PStr, PUnit, PTuple, PNil, PCons, PAbsent, PPresent, PExn, PExnOf, Patterns, no_patterns, pattern', Expr, Arms, no_arms, arm, Value, VInt, VBool, VStr, VUnit, VExn, VTuple, VNil, VCons, VAbsent, VPresent, Values, no_values, value}
use Rattle.ac_code.specs.Constants.{same_int, same_bool}
use Rattle.ac_meaning.specs.Substitution.{Written, inst}

-- the variables of a pattern that fits a value, bound from left to right, in front of ws, the variables bound so far
abbrev mutual
  pub fit : Pattern → Value → Written → Option Written
  fit PWild v ws = Some ws
  fit (PVar T) v ws = Some ((T, v) ∷ ws)
  fit (PInt n) (VInt k) ws = given (same_int n k) (Some ws)
  fit (PInt n) v ws = None
  fit (PBool b) (VBool c) ws = given (same_bool b c) (Some ws)
  fit (PBool b) v ws = None
  fit (PStr s) (VStr t) ws = given (same_bytes s t) (Some ws)
  fit (PStr s) v ws = None
  fit PUnit VUnit ws = Some ws
  fit PUnit v ws = None
  fit (PTuple ps) (VTuple vs) ws = fit_all ps vs ws
  fit (PTuple ps) v ws = None
  fit PNil (VNil T) ws = Some ws
  fit PNil v ws = None
  fit (PCons p q) (VCons v w) ws = option_and_then (fit q w) (fit p v ws)
  fit (PCons p q) v ws = None
  fit PAbsent (VAbsent T) ws = Some ws
  fit PAbsent v ws = None
  fit (PPresent p) (VPresent v) ws = fit p v ws
  fit (PPresent p) v ws = None
  fit (PExn k) (VExn j None) ws = given (nat_eq k j) (Some ws)
  fit (PExn k) v ws = None
  fit (PExnOf k p) (VExn j (Some s)) ws = given (nat_eq k j) (fit p (VStr s) ws)
  fit (PExnOf k p) v ws = None

  pub fit_all : Patterns → Values → Written → Option Written
  fit_all no_patterns no_values ws = Some ws
  fit_all (pattern' p ps) (value v vs) ws = option_and_then (fit_all ps vs) (fit p v ws)
  fit_all _ _ _ = None

-- the body of the first arm whose pattern fits
abbrev pub chosen : Arms → Value → Option Expr
chosen no_arms v = None
chosen (arm p e rest) v = option_or (option_map (λ ws. inst 0 ws e) (fit p v [])) (chosen rest v)
