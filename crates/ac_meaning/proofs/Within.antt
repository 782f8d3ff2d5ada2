-- Terms and values within the bounds of their spelling, as the reduction keeps them: what can be packed within a function, and what can come to stand there.
use Rattle.std.proofs.Common.{◌≡◌, ℕ, suc, Bool, true, false, ◌&&◌, List, [], ◌∷◌}
use Rattle.std.specs.Prelude.{nat_le, None}
use Rattle.std.specs.List.{list_all}
use Rattle.std.specs.Option.{option_map_or}
use Rattle.ac_types.specs.Types.{Typ, TFun, is_small}
use Rattle.ac_terms.specs.Terms.{Pattern, Expr, Int, Boolean, Str, Unit', Exn, ExnOf, Tuple, Nil, Empty, Present, Cons, Var, Own, Ref, Lam, Rec, App, Let, If, Seq, Match, Try, Raise, Prim, Marshal, Unmarshal, Val, Evaluated, Bracket, Exprs, no_exprs, expr, Arms, no_arms, arm, Value, VInt, VBool, VStr, VUnit, VExn, VTuple, VNil, VCons, VAbsent, VPresent, VLam, VRec, VProxy, VSeal, Values, no_values, value}
use Rattle.ac_terms.specs.Spelling.{term_count, arm_count}
use Rattle.ac_types.specs.Exceptions.{has_text}
use Rattle.ac_terms.specs.PrimitiveTypes.{is_exception, primitives}
use Rattle.ac_terms.specs.Parts.{pattern_types}
use Rattle.ac_terms.specs.Bounds.{is_string, is_two, is_four, is_integer, is_width, is_lower, fits_type, fits_pattern, takes}
use Rattle.ac_meaning.specs.Writes.{Write, string_of}
use Rattle.ac_meaning.specs.Worlds.{Exception}
use Rattle.ac_meaning.specs.Acts.{Act, Is, Goes, Turns, Applies, Raises, Wrong}
use Rattle.ac_meaning.specs.Substitution.{Written}

-- a type within the bounds, and small
abbrev pub TypeFits : Typ → Type 0
TypeFits T = (fits_type false T ≡ true) × (is_small T ≡ true)

-- a pattern within the bounds, and of small types
abbrev pub PatternFits : Pattern → Type 0
PatternFits p = (fits_pattern p ≡ true) × (list_all is_small (pattern_types p) ≡ true)

-- what is asked within a function alone
abbrev pub Strictly : Bool → Type 0 → Type 0
Strictly true P = P
Strictly false P = Unit {0}

abbrev pub width : Values → ℕ
width no_values = 0
width (value v vs) = suc (width vs)

-- a term: strictly, as it stands within a function; otherwise as it stands on its own, where types of what is there at once may be any
abbrev mutual
  pub Within : Bool → Expr → Type 0
  Within s (Int n) = is_integer n ≡ true
  Within s (Boolean b) = Unit {0}
  Within s (Str x) = is_string x ≡ true
  Within s Unit' = Unit {0}
  Within s (Exn k) = is_exception k None ≡ true
  Within s (ExnOf k e) = (has_text k ≡ true) × Within s e
  Within s (Tuple es) = (is_width (term_count es) ≡ true) × AllWithin s es
  Within s (Nil T) = Strictly s (TypeFits T)
  Within s (Empty T) = Strictly s (TypeFits T)
  Within s (Present e) = Within s e
  Within s (Cons a b) = Within s a × Within s b
  Within s (Var i) = is_two i ≡ true
  Within s (Own f) = is_two f ≡ true
  Within s (Ref j x) = (is_two j && is_lower x) ≡ true
  Within s (Lam T e) = TypeFits T × Within true e
  Within s (Rec T U e) = TypeFits T × TypeFits U × (is_small (TFun T U) ≡ true) × Within true e
  Within s (App f a) = Within s f × Within s a
  Within s (Let T e b) = TypeFits T × Within s e × Within true b
  Within s (If c a b) = Within s c × Within s a × Within s b
  Within s (Seq es) = Strictly s ((nat_le 2 (term_count es) && is_four (term_count es)) ≡ true) × AllWithin s es
  Within s (Match e arms) = Within s e × ArmsWithin arms × ((nat_le 1 (arm_count arms) && nat_le (arm_count arms) 1024) ≡ true)
  Within s (Try e arms) = Within s e × ArmsWithin arms × ((nat_le 1 (arm_count arms) && nat_le (arm_count arms) 1024) ≡ true)
  Within s (Raise T e) = TypeFits T × Within s e
  Within s (Prim k es) = Strictly s (takes primitives k (term_count es) ≡ true) × AllWithin s es
  Within s (Marshal T m e) = TypeFits T × Within s m × Within s e
  Within s (Unmarshal T e) = TypeFits T × Within s e
  Within s (Val T v) = ⊥
  Within s (Evaluated T v) = Strictly s (TypeFits T) × ValueWithin v
  Within s (Bracket c T e) = Within false e

  pub AllWithin : Bool → Exprs → Type 0
  AllWithin s no_exprs = Unit {0}
  AllWithin s (expr e es) = Within s e × AllWithin s es

  pub ArmsWithin : Arms → Type 0
  ArmsWithin no_arms = Unit {0}
  ArmsWithin (arm p e rest) = PatternFits p × Within true e × ArmsWithin rest

  pub ValueWithin : Value → Type 0
  ValueWithin (VInt n) = is_integer n ≡ true
  ValueWithin (VBool b) = Unit {0}
  ValueWithin (VStr x) = is_string x ≡ true
  ValueWithin VUnit = Unit {0}
  ValueWithin (VExn k x) = (is_exception k x ≡ true) × (option_map_or is_string x true ≡ true)
  ValueWithin (VTuple vs) = (is_width (width vs) ≡ true) × ValuesWithin vs
  ValueWithin (VNil T) = Unit {0}
  ValueWithin (VCons v w) = ValueWithin v × ValueWithin w
  ValueWithin (VAbsent T) = Unit {0}
  ValueWithin (VPresent v) = ValueWithin v
  ValueWithin (VLam T e) = TypeFits T × Within true e
  ValueWithin (VRec T U e) = TypeFits T × TypeFits U × (is_small (TFun T U) ≡ true) × Within true e
  ValueWithin (VProxy b T U f) = ValueWithin f
  ValueWithin (VSeal b n t v) = ValueWithin v

  pub ValuesWithin : Values → Type 0
  ValuesWithin no_values = Unit {0}
  ValuesWithin (value v vs) = ValueWithin v × ValuesWithin vs

-- what is written for variables
abbrev pub WrittenWithin : Written → Type 0
WrittenWithin [] = Unit {0}
WrittenWithin (w ∷ ws) = TypeFits w.0 × ValueWithin w.1 × WrittenWithin ws

-- an exception that is raised
abbrev pub RaisedWithin : Exception → Type 0
RaisedWithin x = (is_exception x.number x.text ≡ true) × (option_map_or is_string x.text true ≡ true)

-- what was written
abbrev pub WritesWithin : List Write → Type 0
WritesWithin [] = Unit {0}
WritesWithin (w ∷ ws) = (is_string (string_of w) ≡ true) × WritesWithin ws

-- what is next
abbrev pub ActWithin : {S A : Type 0} → (S → Type 0) → (A → Type 0) → Act S A → Type 0
ActWithin f g (Is v) = g v
ActWithin f g (Goes s) = f s
ActWithin f g (Turns z s) = f s × WritesWithin z.writes
ActWithin f g (Applies s) = f s
ActWithin f g (Raises x) = RaisedWithin x
ActWithin f g Wrong = Unit {0}
