-- Which values a pattern fits, and what its variables then are.
use Rattle.std.specs.Prelude.{Bool, true, false, nat_eq, Option, Some, None, option_and_then}
use Rattle.ac_types.specs.Types.{same_bytes}
use Rattle.ac_code.specs.Constants.{same_int, same_bool}
use Rattle.ac_terms.specs.Terms.{Pattern, PWild, PVar, PInt, PBool, PStr, PUnit, PTuple, PNil, PCons, PAbsent, PPresent, PExn, PExnOf, Patterns, no_patterns, pattern'}
use Rattle.ac_values.specs.Values.{MValue, MInt, MBool, MStr, MUnit, MExn, MExnOf, MTuple, MNil, MCons, MAbsent, MPresent, MMore, MValues, nothing, also}

abbrev pub where_true : {A : Type 0} → Bool → Option A → Option A
where_true true o = o
where_true false o = None

-- the environment with the variables of the pattern, bound from left to right, where it fits
abbrev mutual
  pub bound : Pattern → MValue → MValue → Option MValue
  bound PWild m es = Some es
  bound (PVar T) m es = Some (MMore m es)
  bound (PInt n) (MInt k) es = where_true (same_int n k) (Some es)
  bound (PBool b) (MBool c) es = where_true (same_bool b c) (Some es)
  bound (PStr s) (MStr t) es = where_true (same_bytes s t) (Some es)
  bound PUnit MUnit es = Some es
  bound (PTuple ps) (MTuple ms) es = all_bound ps ms es
  bound PNil MNil es = Some es
  bound (PCons p q) (MCons a b) es = option_and_then (bound q b) (bound p a es)
  bound PAbsent MAbsent es = Some es
  bound (PPresent p) (MPresent a) es = bound p a es
  bound (PExn k) (MExn j) es = where_true (nat_eq k j) (Some es)
  bound (PExnOf k p) (MExnOf j a) es = where_true (nat_eq k j) (bound p a es)
  bound p m es = None

  pub all_bound : Patterns → MValues → MValue → Option MValue
  all_bound no_patterns nothing es = Some es
  all_bound (pattern' p ps) (also m ms) es = option_and_then (all_bound ps ms) (bound p m es)
  all_bound ps ms es = None
