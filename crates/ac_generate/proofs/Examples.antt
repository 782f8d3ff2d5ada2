-- The code of small programs, which the check computes.
use Rattle.std.proofs.Common.{◌≡◌, refl, pos, List, [], ◌∷◌, None, Some, codes}
use Rattle.ac_types.specs.Exceptions as exceptions
use Rattle.ac_types.specs.Primitives as primitives
use Rattle.ac_types.specs.Types.{TInt, TBool, TStr, TUnit, TFun}
use Rattle.ac_terms.specs.Terms.{Main, In, Pattern, PTuple, PInt, PWild, PVar, PExnOf, pattern', no_patterns, Expr, Int, Str, Unit', Tuple, Var, Ref, Lam, Rec, App, Let, Match, Try, Prim, Val, expr, no_exprs, arm, no_arms, PValue, KInt, KTuple, KList, KExn, KFun, pvalue, no_pvalues}
use Rattle.ac_terms.specs.Defs.{Field, Module, AModule, Own', Environment}
use Rattle.ac_code.specs.Code as instr
use Rattle.ac_generate.specs.Generate.{lambda_block}
use Rattle.ac_generate.specs.Generated.{own_block, program_code, packed_blocks}

abbrev add : Expr → Expr → Expr
add a b = Prim primitives.add (expr a (expr b no_exprs))

abbrev print_int : Expr → Expr
print_int e = Prim primitives.print_int (expr e no_exprs)

abbrev print_string : Expr → Expr
print_string e = Prim primitives.print_string (expr e no_exprs)

-- `IO.print_int (3 + 4)`
ex_print : program_code [] (print_int (add (Int (pos 3)) (Int (pos 4)))) ≡ record {
  blocks = own_block Main (instr.PushInt (pos 3) ∷ instr.PushInt (pos 4) ∷ instr.Prim primitives.add ∷ instr.Prim primitives.print_int ∷ instr.Stop ∷ []) ∷ [];
  fields = [];
}
ex_print = refl

-- let f : int -> int -> int = fun (x : int) -> fun (y : int) -> x + y in
-- try match (1, "a") with (0, _) -> ()
--   | ((a : int), (s : string)) -> (fun (u : unit) -> IO.print_int (f a 2)) () end
-- with Failure (s : string) -> IO.print_string s end
abbrev inner_sum : Expr
inner_sum = Lam TInt (add (Var 1) (Var 0))

abbrev later : Expr
later = Lam TUnit (print_int (App (App (Var 3) (Var 2)) (Int (pos 2))))

abbrev zero_and_any : Pattern
zero_and_any = PTuple (pattern' (PInt (pos 0)) (pattern' PWild no_patterns))

abbrev two_variables : Pattern
two_variables = PTuple (pattern' (PVar TInt) (pattern' (PVar TStr) no_patterns))

abbrev failure : Pattern
failure = PExnOf exceptions.failure (PVar TStr)

abbrev nested : Expr
nested =
    Let (TFun TInt (TFun TInt TInt)) (Lam TInt inner_sum)
    (Try
    (Match (Tuple (expr (Int (pos 1)) (expr (Str (codes "a")) no_exprs)))
    (arm zero_and_any Unit' (arm two_variables (App later Unit') no_arms)))
    (arm failure (print_string (Var 0)) no_arms))

ex_nested : program_code [] nested ≡ record {
  blocks =
      lambda_block Main inner_sum (TInt ∷ []) (instr.Var 1 ∷ instr.Var 0 ∷ instr.Prim primitives.add ∷ []) ∷
      lambda_block Main (Lam TInt inner_sum) [] (instr.Closure 0 ∷ []) ∷
      lambda_block Main later (TStr ∷ TInt ∷ TFun TInt (TFun TInt TInt) ∷ []) (instr.Var 3 ∷ instr.Var 2 ∷ instr.Apply ∷ instr.PushInt (pos 2) ∷ instr.Apply ∷ instr.Prim primitives.print_int ∷ []) ∷
      own_block Main (
      instr.Closure 1 ∷ instr.Bind ∷
      instr.Try 18 ∷
      instr.PushInt (pos 1) ∷ instr.PushStr (codes "a") ∷ instr.MakeTuple 2 ∷
      instr.Test zero_and_any 9 ∷ instr.PushUnit ∷ instr.Jump 16 ∷
      instr.Test two_variables 15 ∷ instr.Closure 2 ∷ instr.PushUnit ∷ instr.Apply ∷ instr.Unbind 2 ∷ instr.Jump 16 ∷
      instr.NoMatch ∷
      instr.EndTry ∷ instr.Jump 24 ∷
      instr.Test failure 23 ∷ instr.Var 0 ∷ instr.Prim primitives.print_string ∷ instr.Unbind 1 ∷ instr.Jump 24 ∷
      instr.Raise ∷
      instr.Unbind 1 ∷ instr.Stop ∷ []
      ) ∷ [];
  fields = [];
}
ex_nested = refl

-- module C : sig val f : int -> bool val n : int end =
-- struct val f : int -> bool = rec f (x : int) : bool = f x val n : int = 5 end
-- IO.print_int C.n
abbrev endless : Expr
endless = Rec TInt TBool (App (Var 1) (Var 0))

abbrev fields : List Field
fields = record { name = codes "f"; ty = TFun TInt TBool; term = endless } ∷ record { name = codes "n"; ty = TInt; term = Int (pos 5) } ∷ []

abbrev module_c : Module
module_c = record { name = codes "C"; version = []; sig = record { types = []; vals = [] }; types = []; fields = fields }

abbrev only_c : Environment
only_c = record { def = AModule module_c; name = None; seen = Own'; link = None } ∷ []

ex_fields : program_code only_c (print_int (Ref 0 (codes "n"))) ≡ record {
  blocks =
      lambda_block (In 0) endless [] (instr.Var 1 ∷ instr.Var 0 ∷ instr.Apply ∷ []) ∷
      own_block (In 0) (instr.RecClosure 0 ∷ instr.Return ∷ []) ∷
      own_block (In 0) (instr.PushInt (pos 5) ∷ instr.Return ∷ []) ∷
      own_block Main (instr.Ref 0 (codes "n") ∷ instr.Prim primitives.print_int ∷ instr.Stop ∷ []) ∷ [];
  fields = (1 ∷ 2 ∷ []) ∷ [];
}
ex_fields = refl

-- ([1; 2], Failure "a", fun (x : int) -> g x, at home in entry 3, where g was captured)
abbrev caught : Expr
caught = Lam TInt (App (Val (TFun TInt TBool) (KFun (In 1) endless)) (Var 0))

abbrev packed : PValue
packed = KTuple (pvalue (KList (pvalue (KInt (pos 1)) (pvalue (KInt (pos 2)) no_pvalues))) (pvalue (KExn exceptions.failure (Some (codes "a"))) (pvalue (KFun (In 3) caught) no_pvalues)))

ex_packed : packed_blocks packed 7 ≡
    lambda_block (In 1) endless [] (instr.Var 1 ∷ instr.Var 0 ∷ instr.Apply ∷ []) ∷
    lambda_block (In 3) caught [] (instr.RecConstant 7 ∷ instr.Var 0 ∷ instr.Apply ∷ []) ∷
    own_block Main (
    instr.PushInt (pos 1) ∷ instr.PushInt (pos 2) ∷ instr.PushNil ∷ instr.MakeCons ∷ instr.MakeCons ∷
    instr.PushStr (codes "a") ∷ instr.MakeExn exceptions.failure ∷
    instr.Constant 8 ∷
    instr.MakeTuple 3 ∷ instr.Return ∷ []
    ) ∷ []
ex_packed = refl
