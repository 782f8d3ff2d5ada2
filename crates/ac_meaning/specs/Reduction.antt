-- The reduction of the whole language, in call by value and from the left, in both modes: a step of a term, and how a run ends.
use Rattle.std.specs.Prelude.{ℕ, Bool, true, false, [], ◌∷◌, None}
use Rattle.ac_types.specs.Types.{Bytes, TStr, TFun}
use Rattle.ac_terms.specs.Terms.{Home, Main, Expr, Int, Boolean, Str, Unit', Exn, ExnOf, Tuple, Nil, Empty, Present, Cons, Var, Own, Ref, Lam, Rec, App, Let, If, Seq, Match, Try, Raise, Prim, Marshal, Unmarshal, Val, Evaluated, Bracket, Exprs, no_exprs, expr, Value, VInt, VBool, VStr, VUnit, VExn, VTuple, VNil, VCons, VAbsent, VPresent, VLam, VRec, VProxy, Values, no_values, value}
use Rattle.ac_terms.specs.Defs.{Environment}
use Rattle.ac_rules.specs.Views.{Mode}
use Rattle.ac_meaning.specs.Worlds.{World, match_failure_exn, fresh}
use Rattle.ac_meaning.specs.Acts.{Act, Is, Goes, Applies, Wrong, becomes, or_raises, within, part, parts, Outcome, State, At, Over, step_by, Leads}
use Rattle.ac_meaning.specs.Substitution.{inst}
use Rattle.ac_meaning.specs.Matching.{chosen}
use Rattle.ac_meaning.specs.PrimitiveSteps.{spelled, primitive, answered, exception_of, exception_value, thrown}
use Rattle.ac_meaning.specs.Brackets.{enclosed, bracket_step}
use Rattle.ac_meaning.specs.References.{own_field, referred}
use Rattle.ac_meaning.specs.Packing.{raising, marshal_step, unmarshal_step}

-- a function of home c is applied to w. A lambda's body has w for its variable, and that of a recursive one the function itself for the other; each is one application. A proxy hands w inwards and the result outwards
abbrev pub apply : Home → Value → Value → Act Expr Value
apply c (VLam T e) w = Applies (inst 0 ((T, w) ∷ []) e)
apply c (VRec T U e) w = Applies (inst 0 ((T, w) ∷ (TFun T U, VRec T U e) ∷ []) e)
apply c (VProxy b T U f) w = Goes (Bracket b U (App (Evaluated (TFun T U) f) (enclosed c T w)))
apply _ _ _ = Wrong

-- a value chooses between two terms
abbrev pub branch : Value → Expr → Expr → Act Expr Value
branch (VBool true) a b = Goes a
branch (VBool false) a b = Goes b
branch _ _ _ = Wrong

module _ (mode : Mode) (z : World) where
  abbrev mutual
    -- what is next in a term that stands in home c
    pub look : Home → Expr → Act Expr Value
    -- values
    look c (Int n) = Is (VInt n)
    look c (Boolean b) = Is (VBool b)
    look c (Str s) = Is (VStr s)
    look c Unit' = Is VUnit
    look c (Exn k) = Is (VExn k None)
    look c (Nil T) = Is (VNil T)
    look c (Empty T) = Is (VAbsent T)
    look c (Lam T e) = Is (VLam T e)
    look c (Rec T U e) = Is (VRec T U e)
    look c (Evaluated T v) = Is v
    -- values where their parts are
    look c (ExnOf k e) = part (ExnOf k) (exception_of k) (look c e)
    look c (Tuple es) = part Tuple (λ vs. Is (VTuple vs)) (look_all c es)
    look c (Present e) = part Present (λ v. Is (VPresent v)) (look c e)
    look c (Cons a b) = parts Cons a b (λ v w. Is (VCons v w)) (look c a) (look c b)
    -- functions, bindings and choices
    look c (App f a) = parts App f a (apply c) (look c f) (look c a)
    look c (Let T e b) = part (λ e'. Let T e' b) (λ v. Goes (inst 0 ((T, v) ∷ []) b)) (look c e)
    look c (If e a b) = part (λ e'. If e' a b) (λ v. branch v a b) (look c e)
    -- a match in which no arm fits raises an exception of its own
    look c (Match e arms) = part (λ e'. Match e' arms) (λ v. or_raises match_failure_exn (chosen arms v)) (look c e)
    -- a sequence drops the value of each part but the last, and becomes the last
    look c (Seq no_exprs) = Wrong
    look c (Seq (expr e no_exprs)) = Goes e
    look c (Seq (expr e (expr d es))) = part (λ e'. Seq (expr e' (expr d es))) (λ v. Goes (Seq (expr d es))) (look c e)
    -- exceptions; a handler round a value becomes the value, and where none of its arms fits, it raises the same exception again
    look c (Raise T e) = part (Raise T) thrown (look c e)
    look c (Try e arms) = within (λ e'. Try e' arms) (λ v. Goes e) (λ x. or_raises x (chosen arms (exception_value x))) (look c e)
    -- primitives
    look c (Prim k es) = part (Prim k) (λ vs. answered spelled (raising TStr) z (primitive k vs)) (look_all c es)
    look c (Marshal T m e) = parts (Marshal T) m e (marshal_step z c T) (look c m) (look c e)
    look c (Unmarshal T e) = part (Unmarshal T) (unmarshal_step mode z c T) (look c e)
    -- fields, here and elsewhere
    look c (Own f) = becomes (own_field z.environment c f)
    look c (Ref j x) = becomes (referred z.environment j x)
    -- what stands in a bracket stands in the bracket's home
    look c (Bracket b T e) = part (Bracket b T) (bracket_step mode z.environment b c T) (look b e)
    -- a variable has had its value written for it
    look c (Var i) = Wrong
    -- a packed value is rebuilt before it comes to stand in a term
    look c (Val T v) = Wrong

    -- terms from left to right
    pub look_all : Home → Exprs → Act Exprs Values
    look_all c no_exprs = Is no_values
    look_all c (expr e es) = parts expr e es (λ v vs. Is (value v vs)) (look c e) (look_all c es)

-- what is next in the main program
abbrev pub look_main : Mode → World → Expr → Act Expr Value
look_main mode z e = look mode z Main e

-- one step, where N applications may be made
abbrev pub step : Mode → ℕ → State Expr Value → State Expr Value
step mode N s = step_by (look_main mode) N s

-- the program e over the definitions E, with this input, and with or without a channel to send to, ends so where N applications may be made
abbrev pub Ends : Mode → Environment → Expr → Bytes → Bool → ℕ → Outcome Value → Type 0
Ends mode E e input sends N o = Leads (step mode N) (At e (fresh E input sends)) (Over o)
