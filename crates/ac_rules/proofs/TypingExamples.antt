-- The types of terms, and terms without a type, computed.
use Rattle.std.proofs.Common.{◌≡◌, refl}
use Rattle.std.specs.Prelude.{ℕ, zero, suc, pos, true, false, [], ◌∷◌, Option, Some, None, codes}
use Rattle.ac_types.specs.Exceptions as exceptions
use Rattle.ac_types.specs.Primitives as primitives
use Rattle.ac_types.specs.Types.{Typ, TInt, TBool, TStr, TUnit, TExn, TTuple, TList, TOpt, TFun, TAbs, typs}
use Rattle.ac_terms.specs.Terms.{Main, In, PWild, PVar, PInt, PCons, PNil, PTuple, PExnOf, patterns, Expr, Int, Boolean, Str, Unit', Exn, ExnOf, Tuple, Nil, Empty, Present, Cons, Var, Own, Ref, Lam, Rec, App, Let, If, Seq, Match, Try, Raise, Prim, Marshal, Unmarshal, Val, Evaluated, Bracket, exprs, no_arms, arms, KInt, KFun, KExn, VInt, VSeal}
use Rattle.ac_rules.specs.Views.{Plain, Coloured, view, bare, IsFirstOrder}
use Rattle.ac_rules.specs.Typing.{all_of, of_field, type_of, HasType, holds}
use Rattle.ac_rules.proofs.Samples.{c_name, t, c_t, one_entry, made}

-- types of terms of the main program in the empty environment
abbrev main_type : Expr → Option Typ
main_type e = type_of Coloured false [] (all_of [] Main) e

pub a_sum : main_type (Prim primitives.add (exprs (Int (pos 1) ∷ Int (pos 2) ∷ []))) ≡ Some TInt
a_sum = refl

pub no_sum : main_type (Prim primitives.add (exprs (Int (pos 1) ∷ Boolean true ∷ []))) ≡ None
no_sum = refl

pub a_function : main_type (Lam TInt (Var 0)) ≡ Some (TFun TInt TInt)
a_function = refl

pub an_application : main_type (App (Lam TInt (Tuple (exprs (Var 0 ∷ Var 0 ∷ [])))) (Int (pos 3))) ≡ Some (TTuple (typs (TInt ∷ TInt ∷ [])))
an_application = refl

pub no_application : main_type (App (Lam TInt (Var 0)) Unit') ≡ None
no_application = refl

pub a_recursion :
    main_type (Rec TInt TInt (If (Prim primitives.eq (exprs (Var 0 ∷ Int (pos 1) ∷ []))) (Int (pos 0)) (App (Var 1) (Prim primitives.sub (exprs (Var 0 ∷ Int (pos 1) ∷ [])))))) ≡ Some (TFun TInt TInt)
a_recursion = refl

pub a_shadowed_variable : main_type (Let TInt (Int (pos 1)) (Let TBool (Boolean true) (If (Var 0) (Var 1) (Int (pos 2))))) ≡ Some TInt
a_shadowed_variable = refl

pub a_match :
    main_type (Match (Cons (Int (pos 1)) (Nil (TList TInt))) (arms ((PNil, Int (pos 0)) ∷ (PCons (PVar TInt) (PVar (TList TInt)), Var 1) ∷ []))) ≡ Some TInt
a_match = refl

pub two_types_in_arms : main_type (Match (Int (pos 1)) (arms ((PInt (pos 1), Int (pos 0)) ∷ (PWild, Unit') ∷ []))) ≡ None
two_types_in_arms = refl

pub a_handler : main_type (Try (Raise TInt (Exn exceptions.division_by_zero)) (arms ((PWild, Int (pos 0)) ∷ []))) ≡ Some TInt
a_handler = refl

pub no_number_in_a_sequence : main_type (Seq (exprs (Int (pos 1) ∷ Unit' ∷ []))) ≡ None
no_number_in_a_sequence = refl

pub no_equation_of_functions : main_type (Prim primitives.eq (exprs (Lam TInt (Var 0) ∷ Lam TInt (Var 0) ∷ []))) ≡ None
no_equation_of_functions = refl

pub a_marshal : main_type (Marshal TInt (Str (codes "MK")) (Int (pos 5))) ≡ Some TStr
a_marshal = refl

pub a_packed_function : main_type (Val (TFun TUnit TInt) (KFun Main (Lam TUnit (Val TInt (KInt (pos 5)))))) ≡ Some (TFun TUnit TInt)
a_packed_function = refl

pub no_free_variable : main_type (Val (TFun TUnit TInt) (KFun Main (Lam TUnit (Var 1)))) ≡ None
no_free_variable = refl

-- one refusal a rule
pub no_variable : main_type (Var 0) ≡ None
no_variable = refl

pub no_own_field_in_main : main_type (Own 0) ≡ None
no_own_field_in_main = refl

pub no_entry : main_type (Ref 0 (codes "y")) ≡ None
no_entry = refl

pub no_text_for_not_found : main_type (ExnOf exceptions.not_found (Str (codes "s"))) ≡ None
no_text_for_not_found = refl

pub no_failure_without_text : main_type (Exn exceptions.failure) ≡ None
no_failure_without_text = refl

pub no_failure_of_a_number : main_type (ExnOf exceptions.failure (Int (pos 1))) ≡ None
no_failure_of_a_number = refl

pub an_exception : main_type (ExnOf exceptions.failure (Str (codes "s"))) ≡ Some TExn
an_exception = refl

pub no_nil_of_int : main_type (Nil TInt) ≡ None
no_nil_of_int = refl

pub no_empty_of_list : main_type (Empty (TList TInt)) ≡ None
no_empty_of_list = refl

pub an_option : main_type (Present (Int (pos 1))) ≡ Some (TOpt TInt)
an_option = refl

pub no_mixed_list : main_type (Cons (Boolean true) (Nil (TList TInt))) ≡ None
no_mixed_list = refl

pub no_recursion_at_another_type : main_type (Rec TInt TBool (Var 0)) ≡ None
no_recursion_at_another_type = refl

pub no_binding_at_another_type : main_type (Let TInt Unit' (Var 0)) ≡ None
no_binding_at_another_type = refl

pub no_choice_by_a_number : main_type (If (Int (pos 1)) Unit' Unit') ≡ None
no_choice_by_a_number = refl

pub no_choice_of_two_types : main_type (If (Boolean true) Unit' (Int (pos 1))) ≡ None
no_choice_of_two_types = refl

pub no_match_without_arms : main_type (Match Unit' no_arms) ≡ None
no_match_without_arms = refl

pub no_pattern_of_another_type : main_type (Match Unit' (arms ((PInt (pos 1), Unit') ∷ []))) ≡ None
no_pattern_of_another_type = refl

pub no_handler_of_another_type : main_type (Try Unit' (arms ((PWild, Int (pos 1)) ∷ []))) ≡ None
no_handler_of_another_type = refl

pub a_handler_with_text : main_type (Try (Str []) (arms ((PExnOf exceptions.failure (PVar TStr), Var 0) ∷ []))) ≡ Some TStr
a_handler_with_text = refl

pub no_raise_of_a_number : main_type (Raise TInt (Int (pos 1))) ≡ None
no_raise_of_a_number = refl

pub no_primitive_of_one_too_few : main_type (Prim primitives.add (exprs (Int (pos 1) ∷ []))) ≡ None
no_primitive_of_one_too_few = refl

pub no_mark_of_a_number : main_type (Marshal TInt (Int (pos 1)) (Int (pos 5))) ≡ None
no_mark_of_a_number = refl

pub no_marshal_at_another_type : main_type (Marshal TBool (Str (codes "MK")) (Int (pos 5))) ≡ None
no_marshal_at_another_type = refl

pub no_unmarshal_of_a_number : main_type (Unmarshal TInt (Int (pos 5))) ≡ None
no_unmarshal_of_a_number = refl

pub no_packed_value_of_another_type : main_type (Val TBool (KInt (pos 5))) ≡ None
no_packed_value_of_another_type = refl

pub no_exception_value_without_its_text : main_type (Val TExn (KExn exceptions.failure None)) ≡ None
no_exception_value_without_its_text = refl

-- a type that mentions an unknown name is no type of a term, nor is a home that is not there
pub no_unknown_name : main_type (Lam (TAbs (codes "n") (codes "t")) (Var 0)) ≡ None
no_unknown_name = refl

pub no_unknown_home : main_type (Bracket (In 0) TInt (Int (pos 5))) ≡ None
no_unknown_home = refl

-- a variable of a pattern's left part is older than one of its right part
pub pattern_variables :
    main_type (Match (Tuple (exprs (Int (pos 1) ∷ Boolean true ∷ []))) (arms ((PTuple (patterns (PVar TInt ∷ PVar TBool ∷ [])), Tuple (exprs (Var 0 ∷ Var 1 ∷ []))) ∷ []))) ≡
    Some (TTuple (typs (TBool ∷ TInt ∷ [])))
pattern_variables = refl

-- a type is small up to a height of 100, in Coloured mode alone
abbrev lists : Typ → ℕ → Typ
lists T zero = T
lists T (suc n) = TList (lists T n)

pub a_high_type : main_type (Nil (lists TInt 99)) ≡ Some (lists TInt 99)
a_high_type = refl

pub too_high_a_type : main_type (Nil (lists TInt 100)) ≡ None
too_high_a_type = refl

pub too_high_for_plain_mode : type_of Plain false [] (all_of [] Main) (Nil (lists TInt 100)) ≡ Some (lists TInt 100)
too_high_for_plain_mode = refl

-- the module C has an abstract type t, which is int: what is seen from inside and from outside
pub inside_its_module : view Coloured one_entry (In 0) (TFun c_t TBool) ≡ TFun TInt TBool
inside_its_module = refl

pub outside_its_module : view Coloured one_entry Main (TFun c_t TBool) ≡ TFun c_t TBool
outside_its_module = refl

pub without_names : bare one_entry (TFun c_t TBool) ≡ TFun TInt TBool
without_names = refl

pub first_order : IsFirstOrder one_entry c_name t
first_order = refl

pub abstract_outside : type_of Coloured false one_entry (all_of one_entry Main) made ≡ Some c_t
abstract_outside = refl

pub back_to_int : type_of Coloured false one_entry (all_of one_entry Main) (App (Ref 0 (codes "get")) made) ≡ Some TInt
back_to_int = refl

pub no_sum_of_abstract : type_of Coloured false one_entry (all_of one_entry Main) (Prim primitives.add (exprs (made ∷ Int (pos 1) ∷ []))) ≡ None
no_sum_of_abstract = refl

pub a_sum_in_plain_mode : type_of Plain false one_entry (all_of one_entry Main) (Prim primitives.add (exprs (made ∷ Int (pos 1) ∷ []))) ≡ Some TInt
a_sum_in_plain_mode = refl

pub second_field : HasType Coloured one_entry (of_field 0 1) (Lam TInt (App (Own 0) (Var 0))) (TFun TInt TInt)
second_field = refl

pub no_later_field : type_of Coloured false one_entry (of_field 0 0) (Own 0) ≡ None
no_later_field = refl

pub no_later_entry : type_of Coloured false one_entry (of_field 0 1) (Ref 0 (codes "make")) ≡ None
no_later_entry = refl

pub a_bracket : HasType Coloured one_entry (all_of one_entry Main) (Bracket (In 0) c_t (Int (pos 5))) c_t
a_bracket = refl

pub a_seal : HasType Coloured one_entry (all_of one_entry Main) (Evaluated c_t (VSeal (In 0) c_name t (VInt (pos 5)))) c_t
a_seal = refl

pub no_seal_at_home : type_of Coloured false one_entry (all_of one_entry (In 0)) (Evaluated c_t (VSeal (In 0) c_name t (VInt (pos 5)))) ≡ None
no_seal_at_home = refl

pub a_packed_abstract_value : holds Coloured false one_entry (KInt (pos 5)) c_t ≡ true
a_packed_abstract_value = refl

pub a_function_of_its_home : holds Coloured false one_entry (KFun (In 0) (Lam TInt (App (Own 0) (Var 0)))) (TFun c_t c_t) ≡ true
a_function_of_its_home = refl

pub no_function_of_main : holds Coloured false one_entry (KFun Main (Lam TInt (Var 0))) (TFun c_t c_t) ≡ false
no_function_of_main = refl
