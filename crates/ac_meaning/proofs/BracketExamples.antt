-- What crosses from one home to another, computed.
use Rattle.std.proofs.Common.{◌≡◌, refl}
use Rattle.std.specs.Int.{int_wrap}
use Rattle.std.specs.Prelude.{ℕ, pos, true, false, [], ◌∷◌, Some, None, codes}
use Rattle.ac_types.specs.Exceptions as exceptions
use Rattle.ac_types.specs.Types.{Typ, TInt, TBool, TStr, TUnit, TExn, TTuple, TList, TOpt, TFun, typs}
use Rattle.ac_terms.specs.Terms.{Main, In, PExn, Expr, Boolean, Str, Unit', Exn, ExnOf, Tuple, Nil, Empty, Present, Cons, Var, Own, Ref, Lam, App, Try, Raise, Evaluated, Bracket, exprs, arms, Value, VInt, VBool, VStr, VUnit, VExn, VTuple, VNil, VCons, VAbsent, VPresent, VLam, VProxy, VSeal, no_values, value}
use Rattle.ac_rules.specs.Views.{Plain, Coloured}
use Rattle.ac_rules.proofs.Samples.{c_name, t, c_t, one_entry, made}
use Rattle.ac_meaning.specs.Worlds.{fresh}
use Rattle.ac_meaning.specs.Acts.{At, Over, Returned, Raised, Spent, Stuck, iter}
use Rattle.ac_meaning.specs.Reduction.{step}
use Rattle.ac_meaning.proofs.Programs.{number, over_steps, made_by, d_name, d_t, two_entries}

-- what a bracket of the module C round a term comes to in the main program
abbrev out_of_c : Typ → Expr → Value → Type 0
out_of_c T e v = over_steps 30 one_entry Coloured (Bracket (In 0) T e) 0 ≡ Over (Returned v (made_by one_entry 0))

-- each head of a type
pub an_int : out_of_c TInt (number 5) (VInt (pos 5))
an_int = refl

pub a_bool : out_of_c TBool (Boolean true) (VBool true)
a_bool = refl

pub a_string : out_of_c TStr (Str (codes "a")) (VStr (codes "a"))
a_string = refl

pub a_unit : out_of_c TUnit Unit' VUnit
a_unit = refl

pub an_exception : out_of_c TExn (ExnOf exceptions.failure (Str (codes "a"))) (VExn exceptions.failure (Some (codes "a")))
an_exception = refl

pub a_tuple :
    out_of_c (TTuple (typs (c_t ∷ TInt ∷ []))) (Tuple (exprs (number 5 ∷ number 6 ∷ []))) (VTuple (value (VSeal (In 0) c_name t (VInt (pos 5))) (value (VInt (pos 6)) no_values)))
a_tuple = refl

-- the end of a list, and a missing option, carry the type of the bracket
pub a_list : out_of_c (TList c_t) (Cons (number 5) (Nil (TList TInt))) (VCons (VSeal (In 0) c_name t (VInt (pos 5))) (VNil (TList c_t)))
a_list = refl

pub an_option : out_of_c (TOpt c_t) (Present (number 5)) (VPresent (VSeal (In 0) c_name t (VInt (pos 5))))
an_option = refl

pub no_option : out_of_c (TOpt c_t) (Empty (TOpt TInt)) (VAbsent (TOpt c_t))
no_option = refl

pub a_function : out_of_c (TFun c_t TInt) (Lam TInt (Var 0)) (VProxy (In 0) c_t TInt (VLam TInt (Var 0)))
a_function = refl

-- a name that the inner home opens: in Coloured mode the value is sealed, and in Plain mode every home opens the name
pub a_seal : out_of_c c_t (number 5) (VSeal (In 0) c_name t (VInt (pos 5)))
a_seal = refl

pub no_seal_in_plain_mode : over_steps 30 one_entry Plain (Bracket (In 0) c_t (number 5)) 0 ≡ Over (Returned (VInt (pos 5)) (made_by one_entry 0))
no_seal_in_plain_mode = refl

-- a name that the outer home opens: the seal is taken off
abbrev sealed : Expr
sealed = Evaluated c_t (VSeal (In 0) c_name t (VInt (pos 5)))

pub a_seal_is_taken_off : iter (step Coloured 0) 9 (At (Bracket (In 0) TInt (Bracket Main c_t sealed)) (fresh one_entry [] false)) ≡ Over (Returned (VInt (pos 5)) (made_by one_entry 0))
a_seal_is_taken_off = refl

-- a name that neither home opens: the seal stays
pub a_seal_stays : over_steps 9 two_entries Coloured (Bracket (In 1) c_t sealed) 0 ≡ Over (Returned (VSeal (In 0) c_name t (VInt (pos 5))) (made_by two_entries 0))
a_seal_stays = refl

-- an ill-formed bracket: no rule is for it
pub no_int : over_steps 9 one_entry Coloured (Bracket (In 0) TInt Unit') 0 ≡ Over Stuck
no_int = refl

pub no_function : over_steps 9 one_entry Coloured (Bracket (In 0) (TFun TInt TInt) (number 5)) 0 ≡ Over Stuck
no_function = refl

pub no_seal_of_that_name : over_steps 9 two_entries Coloured (Bracket (In 1) c_t (Evaluated d_t (VSeal (In 1) d_name t (VInt (pos 5))))) 0 ≡ Over Stuck
no_seal_of_that_name = refl

-- a proxy hands its argument inwards and its result outwards, and counts nothing itself: `C.make 4`
pub a_proxy_is_called : over_steps 30 one_entry Coloured made 1 ≡ Over (Returned (VSeal (In 0) c_name t (VInt (pos 5))) (made_by one_entry 1))
unfolding int_wrap
a_proxy_is_called = refl

pub spent_in_a_proxy : over_steps 30 one_entry Coloured made 0 ≡ Over (Spent (made_by one_entry 0))
spent_in_a_proxy = refl

-- `C.get (C.make 4)`, where `get` calls `make`: one application more, in the module
abbrev got_back : ℕ → Expr
got_back j = App (Ref j (codes "get")) (App (Ref j (codes "make")) (number 4))

pub got_from_the_module : over_steps 40 one_entry Coloured (got_back 0) 3 ≡ Over (Returned (VInt (pos 6)) (made_by one_entry 3))
unfolding int_wrap
got_from_the_module = refl

pub got_in_plain_mode : over_steps 40 one_entry Plain (got_back 0) 3 ≡ Over (Returned (VInt (pos 6)) (made_by one_entry 3))
unfolding int_wrap
got_in_plain_mode = refl

pub spent_inside_the_module : over_steps 40 one_entry Coloured (got_back 0) 2 ≡ Over (Spent (made_by one_entry 2))
unfolding int_wrap
spent_inside_the_module = refl

-- through an import by version there are two brackets, and the seal is of the import's name
pub made_through_an_import : over_steps 40 two_entries Coloured (App (Ref 1 (codes "make")) (number 4)) 1 ≡ Over (Returned (VSeal (In 1) d_name t (VInt (pos 5))) (made_by two_entries 1))
unfolding int_wrap
made_through_an_import = refl

pub got_through_an_import : over_steps 60 two_entries Coloured (got_back 1) 3 ≡ Over (Returned (VInt (pos 6)) (made_by two_entries 3))
unfolding int_wrap
got_through_an_import = refl

pub got_through_an_import_in_plain_mode : over_steps 60 two_entries Plain (got_back 1) 3 ≡ Over (Returned (VInt (pos 6)) (made_by two_entries 3))
unfolding int_wrap
got_through_an_import_in_plain_mode = refl

-- a function of the import is two proxies
pub two_proxies :
    over_steps 9 two_entries Coloured (Ref 1 (codes "get")) 0 ≡
    Over (Returned (VProxy (In 1) d_t TInt (VProxy (In 0) TInt TInt (VLam TInt (App (Own 0) (Var 0))))) (made_by two_entries 0))
two_proxies = refl

-- the main program has no field, and an unknown value none either
pub no_own_field : over_steps 9 one_entry Coloured (Own 0) 0 ≡ Over Stuck
no_own_field = refl

pub no_such_value : over_steps 9 one_entry Coloured (Ref 0 (codes "y")) 0 ≡ Over Stuck
no_such_value = refl

-- a raise passes out of a bracket unchanged
pub a_raise_passes : over_steps 9 one_entry Coloured (Bracket (In 0) c_t (Raise TInt (Exn exceptions.not_found))) 0 ≡ Over (Raised (record { number = exceptions.not_found; text = None }) (made_by one_entry 0))
a_raise_passes = refl

pub handled_outside :
    over_steps 9 one_entry Coloured (Try (Bracket (In 0) TInt (Raise TInt (Exn exceptions.not_found))) (arms ((PExn exceptions.not_found, number 7) ∷ []))) 0 ≡
    Over (Returned (VInt (pos 7)) (made_by one_entry 0))
handled_outside = refl
