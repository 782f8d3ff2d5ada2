-- Runs of small programs, computed.
use Rattle.std.proofs.Common.{◌≡◌, refl}
use Rattle.std.specs.Int.{int_wrap}
use Rattle.std.specs.Fmt.{digits}
use Rattle.std.specs.Prelude.{pos, neg_ℤ, true, false, [], ◌∷◌, Some, None, codes}
use Rattle.ac_types.specs.Exceptions as exceptions
use Rattle.ac_types.specs.Primitives as primitives
use Rattle.ac_types.specs.Types.{Bytes, TInt, TStr, TList, TFun}
use Rattle.ac_terms.specs.Terms.{PWild, PVar, PInt, PStr, PTuple, PPresent, PAbsent, PExn, PExnOf, patterns, Expr, Int, Boolean, Str, Unit', Exn, ExnOf, Tuple, Present, Var, Lam, App, Let, If, Seq, Match, Try, Raise, Prim, exprs, arms, VInt, VStr, VUnit, VTuple, VNil, VCons, no_values, value}
use Rattle.ac_rules.specs.Views.{Plain, Coloured}
use Rattle.ac_meaning.specs.Writes.{Send}
use Rattle.ac_meaning.specs.Worlds.{Exception, fresh, match_failure_exn, end_of_file_exn, no_channel, bad_frame}
use Rattle.ac_meaning.specs.Acts.{At, Over, Returned, Raised, Spent, Stuck, iter}
use Rattle.ac_meaning.specs.Reduction.{step}
use Rattle.ac_meaning.proofs.Programs.{after_steps, printed_by, has_printed, number, plus, minus, over, modulo, print_int, print, then', countdown, total, numbers}

abbrev division_by_zero : Exception
division_by_zero = record { number = exceptions.division_by_zero; text = None }

abbrev not_found : Exception
not_found = record { number = exceptions.not_found; text = None }

-- functions, and the budget: with three applications the program ends, and with two it stops in front of the third
pub three_applications : after_steps 60 Coloured (countdown 3) 3 ≡ Over (Returned VUnit (printed_by (codes "a" ∷ codes "0" ∷ []) 3))
unfolding int_wrap digits
three_applications = refl

pub two_are_spent : after_steps 60 Coloured (countdown 3) 2 ≡ Over (Spent (printed_by (codes "a" ∷ []) 2))
unfolding int_wrap
two_are_spent = refl

pub plain_alike : after_steps 60 Plain (countdown 3) 2 ≡ Over (Spent (printed_by (codes "a" ∷ []) 2))
unfolding int_wrap
plain_alike = refl

-- without an application no budget is needed, and one application needs one
pub none_needed : after_steps 9 Coloured (print_int (plus (number 3) (number 4))) 0 ≡ Over (Returned VUnit (printed_by (codes "7" ∷ []) 0))
unfolding int_wrap digits
none_needed = refl

pub spent_at_once : after_steps 9 Coloured (App (Lam TInt (Var 0)) (number 5)) 0 ≡ Over (Spent (printed_by [] 0))
spent_at_once = refl

pub an_application : after_steps 9 Coloured (App (Lam TInt (Var 0)) (number 5)) 1 ≡ Over (Returned (VInt (pos 5)) (printed_by [] 1))
an_application = refl

-- a function that is bound keeps what was written into it
pub a_closure :
    after_steps 20 Coloured (Let TInt (number 3) (Let (TFun TInt TInt) (Lam TInt (plus (Var 0) (Var 1))) (App (Var 0) (number 4)))) 1 ≡
    Over (Returned (VInt (pos 7)) (printed_by [] 1))
unfolding int_wrap
a_closure = refl

-- `f` stands for its argument under another binder
pub two_arguments :
    after_steps 20 Coloured (App (App (Lam TInt (Lam TInt (minus (Var 1) (Var 0)))) (number 9)) (number 4)) 2 ≡ Over (Returned (VInt (pos 5)) (printed_by [] 2))
unfolding int_wrap
two_arguments = refl

-- lists
pub a_sum_of_a_list : after_steps 60 Coloured (App total (numbers (1 ∷ 2 ∷ 3 ∷ []))) 4 ≡ Over (Returned (VInt (pos 6)) (printed_by [] 4))
unfolding int_wrap
a_sum_of_a_list = refl

pub a_list : after_steps 3 Coloured (numbers (1 ∷ 2 ∷ [])) 0 ≡ Over (Returned (VCons (VInt (pos 1)) (VCons (VInt (pos 2)) (VNil (TList TInt)))) (printed_by [] 0))
a_list = refl

-- the variables of a pattern are bound from left to right
pub variables_of_a_pattern :
    after_steps 9 Coloured (Match (Tuple (exprs (number 9 ∷ number 4 ∷ []))) (arms ((PTuple (patterns (PVar TInt ∷ PVar TInt ∷ [])), minus (Var 1) (Var 0)) ∷ []))) 0 ≡
    Over (Returned (VInt (pos 5)) (printed_by [] 0))
unfolding int_wrap
variables_of_a_pattern = refl

-- the first arm that fits is taken
pub first_arm : after_steps 9 Coloured (Match (Present (number 1)) (arms ((PAbsent, number 1) ∷ (PPresent (PInt (pos 1)), number 2) ∷ (PWild, number 3) ∷ []))) 0 ≡ Over (Returned (VInt (pos 2)) (printed_by [] 0))
first_arm = refl

-- `match 3 with 4 -> () end`
pub no_arm : after_steps 3 Coloured (Match (number 3) (arms ((PInt (pos 4), Unit') ∷ []))) 0 ≡ Over (Raised match_failure_exn (printed_by [] 0))
no_arm = refl

-- `IO.print_int (try 1 / 0 with Not_found -> 1 | Division_by_zero -> 2 end)`
pub a_handler :
    after_steps 9 Coloured (print_int (Try (over (number 1) (number 0)) (arms ((PExn exceptions.not_found, number 1) ∷ (PExn exceptions.division_by_zero, number 2) ∷ [])))) 0 ≡
    Over (Returned VUnit (printed_by (codes "2" ∷ []) 0))
unfolding digits
a_handler = refl

-- the exception passes a handler in which no arm fits
pub handled_further_out :
    after_steps 9 Coloured (Try (Try (Raise TInt (Exn exceptions.not_found)) (arms ((PExn exceptions.division_by_zero, number 1) ∷ []))) (arms ((PVar TInt, number 2) ∷ []))) 0 ≡
    Over (Returned (VInt (pos 2)) (printed_by [] 0))
handled_further_out = refl

pub not_handled : after_steps 9 Coloured (Try (Raise TInt (Exn exceptions.not_found)) (arms ((PExn exceptions.division_by_zero, number 1) ∷ []))) 0 ≡ Over (Raised not_found (printed_by [] 0))
not_handled = refl

-- an arm that raises isn't handled by its own handler
pub an_arm_raises :
    after_steps 9 Coloured (Try (over (number 1) (number 0)) (arms ((PExn exceptions.division_by_zero, Raise TInt (Exn exceptions.not_found)) ∷ (PExn exceptions.not_found, number 1) ∷ []))) 0 ≡ Over (Raised not_found (printed_by [] 0))
an_arm_raises = refl

-- the text of an exception is matched, and what was printed stays
pub a_text_is_matched :
    after_steps 20 Coloured (Try (then' (print (codes "x")) (Raise TStr (ExnOf exceptions.failure (Str (codes "why"))))) (arms ((PExnOf exceptions.failure (PStr (codes "no")), Str []) ∷ (PExnOf exceptions.failure (PVar TStr), Var 0) ∷ []))) 0 ≡
    Over (Returned (VStr (codes "why")) (printed_by (codes "x" ∷ []) 0))
a_text_is_matched = refl

-- a handler around a value
pub nothing_raised : after_steps 9 Coloured (Try (number 1) (arms ((PWild, number 2) ∷ []))) 0 ≡ Over (Returned (VInt (pos 1)) (printed_by [] 0))
nothing_raised = refl

-- from left to right: operands, a function before its argument, the parts of a tuple and of a list
abbrev says : Bytes → Expr → Expr
says s e = then' (print s) e

pub operands_in_order : after_steps 20 Coloured (plus (says (codes "1") (number 1)) (says (codes "2") (number 2))) 0 ≡ Over (Returned (VInt (pos 3)) (printed_by (codes "1" ∷ codes "2" ∷ []) 0))
unfolding int_wrap
operands_in_order = refl

pub function_first : after_steps 20 Coloured (App (says (codes "f") (Lam TInt (Var 0))) (says (codes "a") (number 1))) 1 ≡ Over (Returned (VInt (pos 1)) (printed_by (codes "f" ∷ codes "a" ∷ []) 1))
function_first = refl

pub parts_in_order :
    after_steps 30 Coloured (Tuple (exprs (says (codes "1") Unit' ∷ says (codes "2") Unit' ∷ says (codes "3") Unit' ∷ []))) 0 ≡
    Over (Returned (VTuple (value VUnit (value VUnit (value VUnit no_values)))) (printed_by (codes "1" ∷ codes "2" ∷ codes "3" ∷ []) 0))
parts_in_order = refl

-- what comes after a raise isn't evaluated
pub nothing_after_a_raise : after_steps 20 Coloured (plus (over (number 1) (number 0)) (says (codes "2") (number 2))) 0 ≡ Over (Raised division_by_zero (printed_by [] 0))
unfolding int_wrap
nothing_after_a_raise = refl

-- one branch alone is evaluated
pub one_branch : after_steps 9 Coloured (If (Boolean false) (says (codes "1") Unit') (says (codes "2") Unit')) 0 ≡ Over (Returned VUnit (printed_by (codes "2" ∷ []) 0))
one_branch = refl

-- `IO.print_int (-7 / 2); IO.print_string " "; IO.print_int (-7 mod 2)`
pub towards_zero :
    after_steps 30 Coloured (Seq (exprs (print_int (over (Int (neg_ℤ (pos 7))) (number 2)) ∷ print (codes " ") ∷ print_int (modulo (Int (neg_ℤ (pos 7))) (number 2)) ∷ []))) 0 ≡
    Over (Returned VUnit (printed_by (codes "-3" ∷ codes " " ∷ codes "-1" ∷ []) 0))
unfolding int_wrap digits
towards_zero = refl

-- `IO.print_int (9223372036854775807 + 1); IO.print_int (1 / 0)`
pub wraps_and_divides :
    after_steps 30 Coloured (then' (print_int (plus (number 9223372036854775807) (number 1))) (print_int (over (number 1) (number 0)))) 0 ≡
    Over (Raised division_by_zero (printed_by (codes "-9223372036854775808" ∷ []) 0))
unfolding int_wrap digits
wraps_and_divides = refl

-- `Str.sub ("abc", 1, 3)`
pub past_the_end :
    after_steps 9 Coloured (Prim primitives.sub_string (exprs (Tuple (exprs (Str (codes "abc") ∷ number 1 ∷ number 3 ∷ [])) ∷ []))) 0 ≡
    Over (Raised (record { number = exceptions.invalid_argument; text = Some (codes "sub") }) (printed_by [] 0))
past_the_end = refl

-- terms for which no rule is: a number is no function, and a truth value is no number
pub no_function : after_steps 3 Coloured (App (number 1) (number 2)) 1 ≡ Over Stuck
no_function = refl

pub no_number : after_steps 3 Coloured (plus (number 1) (Boolean true)) 0 ≡ Over Stuck
no_number = refl

-- sending and receiving
abbrev receive : Expr
receive = Prim primitives.receive (exprs (Unit' ∷ []))

abbrev print_received : Expr → Expr
print_received e = Prim primitives.print_string (exprs (e ∷ []))

abbrev send : Bytes → Expr
send s = Prim primitives.send (exprs (Str s ∷ []))

pub nowhere_to_send : after_steps 3 Coloured (send (codes "a")) 0 ≡ Over (Raised no_channel (printed_by [] 0))
nowhere_to_send = refl

pub two_are_sent :
    iter (step Coloured 0) 9 (At (then' (send (codes "a")) (send (codes "bc"))) (fresh [] [] true)) ≡ Over (Returned VUnit (record (fresh [] [] true) { writes = Send (codes "a") ∷ Send (codes "bc") ∷ []; before_writes = has_printed [] ∷ record (has_printed []) { writes = Send (codes "a") ∷ [] } ∷ [] }))
two_are_sent = refl

-- over one frame and one byte more: the frame, and then the bad frame each time
pub a_frame_and_a_bad_one :
    iter (step Coloured 0) 20 (At (Tuple (exprs (receive ∷ Try receive (arms ((PExnOf exceptions.sys_error (PVar TStr), Var 0) ∷ [])) ∷ receive ∷ []))) (fresh [] (0 ∷ 0 ∷ 0 ∷ 2 ∷ 104 ∷ 105 ∷ 7 ∷ []) false)) ≡
    Over (Raised bad_frame (record (fresh [] (7 ∷ []) false) { receives = has_printed [] ∷ has_printed [] ∷ has_printed [] ∷ [] }))
a_frame_and_a_bad_one = refl

pub a_received_frame : iter (step Coloured 0) 3 (At receive (fresh [] (0 ∷ 0 ∷ 0 ∷ 2 ∷ 104 ∷ 105 ∷ []) false)) ≡ Over (Returned (VStr (codes "hi")) (record (fresh [] [] false) { receives = has_printed [] ∷ [] }))
a_received_frame = refl

pub a_short_frame : iter (step Coloured 0) 3 (At receive (fresh [] (0 ∷ 0 ∷ 0 ∷ 2 ∷ 65 ∷ []) false)) ≡ Over (Raised bad_frame (record (fresh [] (0 ∷ 0 ∷ 0 ∷ 2 ∷ 65 ∷ []) false) { receives = has_printed [] ∷ [] }))
a_short_frame = refl

pub too_long_a_frame : iter (step Coloured 0) 3 (At receive (fresh [] (0 ∷ 16 ∷ 0 ∷ 1 ∷ []) false)) ≡ Over (Raised bad_frame (record (fresh [] (0 ∷ 16 ∷ 0 ∷ 1 ∷ []) false) { receives = has_printed [] ∷ [] }))
too_long_a_frame = refl

pub end_of_input : after_steps 3 Coloured receive 0 ≡ Over (Raised end_of_file_exn (record (printed_by [] 0) { receives = has_printed [] ∷ [] }))
end_of_input = refl

-- `IO.print_string "a"; IO.print_string (IO.receive ()); IO.print_string (try IO.receive () with End_of_file -> "." end)`
abbrev pub receives_twice : Expr
receives_twice = Seq (exprs (print (codes "a") ∷ print_received receive ∷ print_received (Try receive (arms ((PExn exceptions.end_of_file, Str (codes ".")) ∷ []))) ∷ []))

-- over one frame: what was done in front of each receive, of which the second finds the end
pub receives_of_a_run :
    iter (step Coloured 0) 30 (At receives_twice (fresh [] (0 ∷ 0 ∷ 0 ∷ 2 ∷ 104 ∷ 105 ∷ []) false)) ≡
    Over (Returned VUnit (record (printed_by (codes "a" ∷ codes "hi" ∷ codes "." ∷ []) 0) { receives = has_printed (codes "a" ∷ []) ∷ has_printed (codes "a" ∷ codes "hi" ∷ []) ∷ [] }))
receives_of_a_run = refl
