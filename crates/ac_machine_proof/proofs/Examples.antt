-- Runs of the machine in a world, computed.
use Rattle.std.proofs.Common.{◌≡◌, refl}
use Rattle.std.specs.Int.{int_wrap}
use Rattle.std.specs.Fmt.{digits}
use Rattle.std.specs.Prelude.{ℕ, pos, Bool, true, false, [], ◌∷◌, None, codes}
use Rattle.ac_types.specs.Exceptions.{sys_error}
use Rattle.ac_types.specs.Primitives.{print_string, receive, send}
use Rattle.ac_types.specs.Types.{Bytes, TInt, TFun, TStr}
use Rattle.ac_meaning.specs.Packing.{packing, landing, unmarshal_failure_exn, Packing, CannotPack, Packs}
use Rattle.ac_terms.specs.Terms.{PVar, PExnOf, Expr, Int, Main, Lam, App, Marshal, Unmarshal, KInt, KFun, Str, Unit', Var, Ref, Match, PInt, Try, Prim, exprs, arms, In}
use Rattle.ac_terms.specs.Defs.{Environment, AMark, Own'}
use Rattle.ac_generate.specs.Generated.{program_code, value_generated}
use Rattle.ac_rules.proofs.Samples.{one_entry, made}
use Rattle.ac_values.specs.Values.{MValue, MInt, MUnit, MClosure, MEnd}
use Rattle.ac_machine_engine.specs.States.{Run, beginning}
use Rattle.ac_meaning.specs.Writes.{Print, Send}
use Rattle.ac_meaning.specs.Worlds.{World, fresh, match_failure_exn, Made, Read, with_crossing}
use Rattle.ac_meaning.specs.Acts.{Over, Returned, Raised, Spent, iter}
use Rattle.ac_meaning.specs.BareTerms.{BVar, BApp, BOwn, WLam}
use Rattle.ac_meaning.proofs.Programs.{number, plus, print_int, countdown, printed_by, has_printed, made_by, two_entries}
use Rattle.ac_meaning.proofs.RunExamples.{receives_twice}
use Rattle.ac_machine_proof.specs.Running.{Running, on, machine_step}
use Rattle.ac_machine_meaning.specs.Stands.{stands}
use Rattle.ac_machine_proof.specs.Alike.{program_block}

-- where a program is after so many steps
abbrev run_steps : ℕ → Environment → Expr → Bytes → Bool → ℕ → Running
run_steps k E e input sends N = iter (machine_step) k (on (program_code E e) (Run (beginning (program_block E e) N)) (fresh E input sends))

-- it has ended with a value
abbrev returns : Environment → Expr → MValue → World → Running
returns E e m z = Over (Returned (program_code E e, m) z)

pub a_sum : run_steps 9 [] (print_int (plus (number 3) (number 4))) [] false 0 ≡ returns [] (print_int (plus (number 3) (number 4))) MUnit (printed_by (codes "7" ∷ []) 0)
unfolding int_wrap digits
a_sum = refl

-- with three applications the program ends, and with two it stops in front of the third
pub three_applications : run_steps 90 [] (countdown 3) [] false 3 ≡ returns [] (countdown 3) MUnit (printed_by (codes "a" ∷ codes "0" ∷ []) 3)
unfolding int_wrap digits
three_applications = refl

pub two_are_spent : run_steps 90 [] (countdown 3) [] false 2 ≡ Over (Spent (printed_by (codes "a" ∷ []) 2))
unfolding int_wrap
two_are_spent = refl

pub no_arm : run_steps 9 [] (Match (number 3) (arms ((PInt (pos 4), Unit') ∷ []))) [] false 0 ≡ Over (Raised match_failure_exn (printed_by [] 0))
no_arm = refl

-- `try Dist.send "x" with Sys_error (s : string) -> IO.print_string s end`: there is no channel
abbrev sends_x : Expr
sends_x = Try (Prim send (exprs (Str (codes "x") ∷ []))) (arms ((PExnOf sys_error (PVar TStr), Prim print_string (exprs (Var 0 ∷ []))) ∷ []))

pub without_channel : run_steps 20 [] sends_x [] false 0 ≡ returns [] sends_x MUnit (printed_by (codes "no channel" ∷ []) 0)
without_channel = refl

pub with_channel : run_steps 20 [] sends_x [] true 0 ≡ returns [] sends_x MUnit (record (fresh [] [] true) { writes = Send (codes "x") ∷ []; before_writes = has_printed [] ∷ [] })
with_channel = refl

-- `IO.print_string (IO.receive ())`
pub a_frame : run_steps 20 [] (Prim print_string (exprs (Prim receive (exprs (Unit' ∷ [])) ∷ []))) (0 ∷ 0 ∷ 0 ∷ 1 ∷ 65 ∷ 66 ∷ []) true 0 ≡ returns [] (Prim print_string (exprs (Prim receive (exprs (Unit' ∷ [])) ∷ []))) MUnit (record (fresh [] (66 ∷ []) true) { writes = Print (65 ∷ []) ∷ []; before_writes = has_printed [] ∷ []; receives = has_printed [] ∷ [] })
a_frame = refl

-- over one frame: what was done in front of each receive, of which the second finds the end
pub receives_of_a_run :
    run_steps 60 [] receives_twice (0 ∷ 0 ∷ 0 ∷ 2 ∷ 104 ∷ 105 ∷ []) false 0 ≡
    returns [] receives_twice MUnit (record (printed_by (codes "a" ∷ codes "hi" ∷ codes "." ∷ []) 0) { receives = has_printed (codes "a" ∷ []) ∷ has_printed (codes "a" ∷ codes "hi" ∷ []) ∷ [] })
receives_of_a_run = refl

-- fields of a module: their blocks are run, and what they return is kept for the next time
pub a_number : run_steps 40 one_entry made [] false 1 ≡ returns one_entry made (MInt (pos 5)) (made_by one_entry 1)
unfolding int_wrap
a_number = refl

pub twice : run_steps 60 one_entry (plus made made) [] false 2 ≡ returns one_entry (plus made made) (MInt (pos 10)) (made_by one_entry 2)
unfolding int_wrap
twice = refl

-- a function of a module is a closure of the module's block, which stands for the function at home there
pub a_function : run_steps 9 two_entries (Ref 1 (codes "get")) [] false 0 ≡ returns two_entries (Ref 1 (codes "get")) (MClosure 2 false MEnd) (made_by two_entries 0)
a_function = refl

pub its_meaning : stands (program_code two_entries (Ref 1 (codes "get"))) (MClosure 2 false MEnd) ≡ WLam (In 0) TInt (BApp (BOwn 0) (BVar 0))
its_meaning = refl

-- the mark M, and nothing else
abbrev marked : Environment
marked = record { def = AMark (codes "M"); name = None; seen = Own'; link = None } ∷ []

-- `unmarshal (marshal "M" (7 : int)) as int`, where the mark M is all that is defined: the code of the value is added, and run
abbrev seven_there_and_back : Expr
seven_there_and_back = Unmarshal TInt (Marshal TInt (Str (codes "M")) (Int (pos 7)))

-- the string that is given, and the world in which it was given and then read
abbrev string_of : Packing → Bytes
string_of (CannotPack x) = []
string_of (Packs s) = s

abbrev seven_sent : Bytes
seven_sent = string_of (packing (fresh marked [] false) TInt (codes "M") (KInt (pos 7)))

abbrev crossed : Bytes → World → World
crossed s z = with_crossing (Read s) (with_crossing (Made s) z)

pub seven_arrives : run_steps 11 marked seven_there_and_back [] false 0 ≡ Over (Returned (value_generated (KInt (pos 7)) (program_code marked seven_there_and_back), MInt (pos 7)) (crossed seven_sent (fresh marked [] false)))
unfolding packing landing
seven_arrives = refl

-- `(unmarshal (marshal "M" (fun (x : int) -> x) : int -> int) as int -> int) 7`: the function's new block is run, which is counted
abbrev identity : Expr
identity = Lam TInt (Var 0)

abbrev travels : Expr
travels = App (Unmarshal (TFun TInt TInt) (Marshal (TFun TInt TInt) (Str (codes "M")) identity)) (Int (pos 7))

abbrev function_sent : Bytes
function_sent = string_of (packing (fresh marked [] false) (TFun TInt TInt) (codes "M") (KFun Main identity))

pub function_travels : run_steps 30 marked travels [] false 1 ≡ Over (Returned (value_generated (KFun Main identity) (program_code marked travels), MInt (pos 7)) (crossed function_sent (made_by marked 1)))
unfolding packing landing
function_travels = refl

-- at another type the string is refused, and read all the same
pub refused : run_steps 11 marked (Unmarshal TStr (Marshal TInt (Str (codes "M")) (Int (pos 7)))) [] false 0 ≡ Over (Raised (unmarshal_failure_exn (codes "type")) (crossed seven_sent (fresh marked [] false)))
unfolding packing landing
refused = refl
