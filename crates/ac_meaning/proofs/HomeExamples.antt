-- More homes: an import by exact name, which has the name of its module; functions that go into a module and out of it; raises and budgets on the way.
use Rattle.std.proofs.Common.{◌≡◌, refl}
use Rattle.std.specs.Int.{int_wrap}
use Rattle.std.specs.Prelude.{pos, [], ◌∷◌, ◌++◌, Some, None, codes}
use Rattle.ac_types.specs.Exceptions as exceptions
use Rattle.ac_types.specs.Types.{TInt, TFun}
use Rattle.ac_types.specs.Sigs.{Number, Exact}
use Rattle.ac_terms.specs.Terms.{Main, In, PVar, PExn, PInt, Expr, Exn, Var, Own, Ref, Lam, App, Let, Match, Try, Raise, Evaluated, Bracket, arms, VInt, VLam, VProxy, VSeal}
use Rattle.ac_terms.specs.Defs.{Environment, Module, AModule, AnImport, Own'}
use Rattle.ac_rules.specs.Views.{Plain, Coloured}
use Rattle.ac_rules.proofs.Samples.{c_name, t, c_t, one_entry, wanted}
use Rattle.ac_meaning.specs.Worlds.{exception}
use Rattle.ac_meaning.specs.Acts.{Over, Returned, Raised, Spent}
use Rattle.ac_meaning.proofs.Programs.{number, plus, after_steps, printed_by, over_steps, made_by, d_t, two_entries}

-- a module with functions of functions: `twice : (int -> int) -> int`, and `fails : int -> int`, which raises Not_found
abbrev calling_module : Module
calling_module = record {
  name = codes "K";
  version = Number 1 ∷ [];
  sig = record { types = []; vals = record { name = codes "twice"; ty = TFun (TFun TInt TInt) TInt } ∷ record { name = codes "fails"; ty = TFun TInt TInt } ∷ [] };
  types = [];
  fields =
      record { name = codes "twice"; ty = TFun (TFun TInt TInt) TInt; term = Lam (TFun TInt TInt) (plus (App (Var 0) (number 1)) (App (Var 0) (number 2))) } ∷
      record { name = codes "fails"; ty = TFun TInt TInt; term = Lam TInt (Raise TInt (Exn exceptions.not_found)) } ∷ [];
}

-- the module C, an import of it by its exact name, and the module K
abbrev three_entries : Environment
three_entries =
    one_entry ++
    record { def = AnImport (record wanted { constraint = Exact c_name }); name = Some c_name; seen = Own'; link = Some 0 } ∷
    record { def = AModule calling_module; name = Some (codes "k"); seen = Own'; link = None } ∷ []

-- through an import by exact name there is one bracket, that of the module
pub one_proxy :
    over_steps 9 three_entries Coloured (Ref 1 (codes "get")) 0 ≡ Over (Returned (VProxy (In 0) c_t TInt (VLam TInt (App (Own 0) (Var 0)))) (made_by three_entries 0))
one_proxy = refl

pub got_by_exact_name : over_steps 40 three_entries Coloured (App (Ref 1 (codes "get")) (App (Ref 0 (codes "make")) (number 4))) 3 ≡ Over (Returned (VInt (pos 6)) (made_by three_entries 3))
unfolding int_wrap
got_by_exact_name = refl

-- a name that both homes open becomes what it is
pub both_open : over_steps 9 three_entries Coloured (Bracket (In 0) TInt (Bracket (In 1) c_t (number 5))) 0 ≡ Over (Returned (VInt (pos 5)) (made_by three_entries 0))
both_open = refl

-- a proxy of a proxy
pub two_brackets :
    over_steps 9 three_entries Coloured (Bracket (In 0) (TFun TInt TInt) (Bracket Main (TFun TInt TInt) (Lam TInt (Var 0)))) 0 ≡
    Over (Returned (VProxy (In 0) TInt TInt (VProxy Main TInt TInt (VLam TInt (Var 0)))) (made_by three_entries 0))
two_brackets = refl

-- a seal is taken off whose home is neither that of the bracket nor that around it
pub a_third_home :
    over_steps 9 three_entries Coloured (Bracket (In 0) TInt (Bracket Main c_t (Evaluated c_t (VSeal (In 1) c_name t (VInt (pos 5)))))) 0 ≡
    Over (Returned (VInt (pos 5)) (made_by three_entries 0))
a_third_home = refl

-- in Plain mode too a function of an import by version is two proxies, and the inner one has the types that the module sees
pub two_proxies_in_plain_mode :
    over_steps 9 two_entries Plain (Ref 1 (codes "get")) 0 ≡ Over (Returned (VProxy (In 1) d_t TInt (VProxy (In 0) TInt TInt (VLam TInt (App (Own 0) (Var 0))))) (made_by two_entries 0))
two_proxies_in_plain_mode = refl

-- a function that goes into a module is called there, and counts
abbrev adds_ten : Expr
adds_ten = Lam TInt (plus (Var 0) (number 10))

pub called_back : over_steps 60 three_entries Coloured (App (Ref 2 (codes "twice")) adds_ten) 3 ≡ Over (Returned (VInt (pos 23)) (made_by three_entries 3))
unfolding int_wrap
called_back = refl

pub spent_on_the_way_back : over_steps 60 three_entries Coloured (App (Ref 2 (codes "twice")) adds_ten) 2 ≡ Over (Spent (made_by three_entries 2))
unfolding int_wrap
spent_on_the_way_back = refl

-- a raise passes out of a module's function, through both brackets of its proxy
pub raised_inside : over_steps 20 three_entries Coloured (App (Ref 2 (codes "fails")) (number 1)) 1 ≡ Over (Raised (exception exceptions.not_found None) (made_by three_entries 1))
raised_inside = refl

pub handled_by_the_caller :
    over_steps 20 three_entries Coloured (Try (App (Ref 2 (codes "fails")) (number 1)) (arms ((PExn exceptions.not_found, number 7) ∷ []))) 1 ≡
    Over (Returned (VInt (pos 7)) (made_by three_entries 1))
handled_by_the_caller = refl

-- a raise passes out of `let`, of an arm and of an argument
pub out_of_let : after_steps 9 Coloured (Let TInt (Raise TInt (Exn exceptions.not_found)) (Var 0)) 0 ≡ Over (Raised (exception exceptions.not_found None) (printed_by [] 0))
out_of_let = refl

pub out_of_an_arm : after_steps 9 Coloured (Match (number 1) (arms ((PInt (pos 1), Raise TInt (Exn exceptions.not_found)) ∷ []))) 0 ≡ Over (Raised (exception exceptions.not_found None) (printed_by [] 0))
out_of_an_arm = refl

pub out_of_an_argument : after_steps 9 Coloured (App (Lam TInt (Var 0)) (Raise TInt (Exn exceptions.not_found))) 1 ≡ Over (Raised (exception exceptions.not_found None) (printed_by [] 0))
out_of_an_argument = refl

-- a handler doesn't catch the end of the budget
pub spent_inside_try : after_steps 9 Coloured (Try (App (Lam TInt (Var 0)) (number 5)) (arms ((PVar TInt, number 0) ∷ []))) 0 ≡ Over (Spent (printed_by [] 0))
spent_inside_try = refl
