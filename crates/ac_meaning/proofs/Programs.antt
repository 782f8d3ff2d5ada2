-- What the examples of the reduction speak of: terms, definitions and ends.
use Rattle.std.specs.Prelude.{ℕ, pos, false, List, [], ◌∷◌, ◌++◌, map, Some, codes}
use Rattle.ac_types.specs.Primitives as primitives
use Rattle.ac_types.specs.Types.{Bytes, Typ, TInt, TAbs}
use Rattle.ac_terms.specs.Terms.{PVar, PCons, PNil, Expr, Int, Str, Var, Rec, App, If, Seq, Match, Prim, Nil, Cons, exprs, arms, Value}
use Rattle.ac_types.specs.Types.{TList, TFun}
use Rattle.ac_terms.specs.Terms.{Let}
use Rattle.ac_terms.specs.Defs.{Environment, AnImport, Own'}
use Rattle.ac_rules.specs.Views.{Mode}
use Rattle.ac_rules.proofs.Samples.{t, one_entry, wanted}
use Rattle.ac_meaning.specs.Writes.{Print}
use Rattle.ac_meaning.specs.Worlds.{Trace, World, fresh}
use Rattle.ac_meaning.specs.Acts.{State, At, iter}
use Rattle.ac_meaning.specs.Reduction.{step}

-- the state after so many steps of a program without definitions, input and channel
abbrev pub after_steps : ℕ → Mode → Expr → ℕ → State Expr Value
after_steps k mode e N = iter (step mode N) k (At e (fresh [] [] false))

-- what a program has done that printed so
abbrev pub has_printed : List Bytes → Trace
has_printed ss = record { environment = []; writes = map Print ss; crossings = [] }

-- what was done in front of each of these prints
abbrev pub before_each : List Bytes → List Bytes → List Trace
before_each done [] = []
before_each done (s ∷ ss) = has_printed done ∷ before_each (done ++ s ∷ []) ss

-- the world after these prints and so many applications
abbrev pub printed_by : List Bytes → ℕ → World
printed_by ss n = record { environment = []; writes = map Print ss; crossings = []; before_writes = before_each [] ss; receives = []; input = []; has_channel = false; made = n }

abbrev pub number : ℕ → Expr
number n = Int (pos n)

abbrev pub binary : ℕ → Expr → Expr → Expr
binary k a b = Prim k (exprs (a ∷ b ∷ []))

abbrev pub plus : Expr → Expr → Expr
plus a b = binary 0 a b

abbrev pub minus : Expr → Expr → Expr
minus a b = binary 1 a b

abbrev pub over : Expr → Expr → Expr
over a b = binary 3 a b

abbrev pub modulo : Expr → Expr → Expr
modulo a b = binary 4 a b

abbrev pub equals : Expr → Expr → Expr
equals a b = binary 6 a b

abbrev pub print_int : Expr → Expr
print_int e = Prim primitives.print_int (exprs (e ∷ []))

abbrev pub print : Bytes → Expr
print s = Prim primitives.print_string (exprs (Str s ∷ []))

abbrev pub then' : Expr → Expr → Expr
then' a b = Seq (exprs (a ∷ b ∷ []))

-- `let rec f (n : int) : int = if n = 1 then 0 else f (n - 1) in IO.print_string "a"; IO.print_int (f n)`
abbrev pub countdown : ℕ → Expr
countdown n =
    Let (TFun TInt TInt) (Rec TInt TInt (If (equals (Var 0) (number 1)) (number 0) (App (Var 1) (minus (Var 0) (number 1)))))
    (then' (print (codes "a")) (print_int (App (Var 0) (number n))))

-- `rec sum (l : int list) : int = match l with [] -> 0 | (x : int) :: (rest : int list) -> x + sum rest end`
abbrev pub total : Expr
total =
    Rec (TList TInt) TInt
    (Match (Var 0) (arms ((PNil, number 0) ∷ (PCons (PVar TInt) (PVar (TList TInt)), plus (Var 1) (App (Var 3) (Var 0))) ∷ [])))

abbrev pub numbers : List ℕ → Expr
numbers [] = Nil (TList TInt)
numbers (n ∷ ns) = Cons (number n) (numbers ns)

-- the module C, and an import of it by version
abbrev pub d_name : Bytes
d_name = codes "d"

abbrev pub d_t : Typ
d_t = TAbs d_name t

abbrev pub two_entries : Environment
two_entries = one_entry ++ record { def = AnImport wanted; name = Some d_name; seen = Own'; link = Some 0 } ∷ []

-- a state of a program over some definitions
abbrev pub over_steps : ℕ → Environment → Mode → Expr → ℕ → State Expr Value
over_steps k E mode e N = iter (step mode N) k (At e (fresh E [] false))

abbrev pub made_by : Environment → ℕ → World
made_by E n = record (fresh E [] false) { made = n }
