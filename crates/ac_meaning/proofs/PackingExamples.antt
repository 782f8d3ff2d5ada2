-- Marshalling, computed: strings without definitions, each fault and which comes first, and bytes that spell no packet.
use Rattle.std.proofs.Common.{◌≡◌, refl, ap, ◌≤◌, ◌+◌}
use native.Mathlib.Omega.{arith}
use Rattle.std.proofs.lemmas.Bool.Decides.{nat_tests}
use Rattle.ac_types.specs.Partial.{given}
use Rattle.ac_terms.specs.Spelling.{two_written, value_bytes}
use Rattle.std.specs.Prelude.{ℕ, zero, suc, pos, Bool, true, false, [], ◌∷◌, ◌++◌, length, take, Option, Some, None, is_none, codes, replicate, nat_lt}
use Rattle.std.specs.Int.{int_wrap}
use Rattle.std.specs.Fmt.{digits}
use Rattle.std.specs.Option.{option_or}
use Rattle.ac_types.specs.Primitives as primitives
use Rattle.ac_types.specs.Types.{Bytes, Typ, TInt, TStr, TBool, TUnit, TTuple, TList, TFun, typs}
use Rattle.ac_types.specs.Words.{is_reserved}
use Rattle.ac_terms.specs.Terms.{Main, In, Expr, Str, Unit', Var, Ref, Lam, App, Prim, Marshal, Unmarshal, Val, Evaluated, exprs, Value, VInt, VStr, VUnit, VTuple, VNil, VCons, VLam, VProxy, no_values, value, KInt, KStr, KFun, Present, KUnit}
use Rattle.ac_terms.specs.Defs.{Environment, Entry, AMark, Own', AModule, Packet}
use Rattle.ac_terms.specs.Nesting.{value_nesting}
use Rattle.ac_terms.specs.Heads.{packed_heads}
use Rattle.ac_terms.specs.PacketReading.{packet_of}
use Rattle.ac_rules.specs.Views.{Plain, Coloured}
use Rattle.ac_rules.specs.Faults.{Fault, Depth, Function, Size, NoString, behind, marshalled, first_fault, whole_fault}
use Rattle.ac_rules.proofs.Samples.{c_t, one_entry}
use Rattle.ac_rules.proofs.PlainExamples.{increment, b_t}
use Rattle.ac_meaning.specs.Writes.{Print, Send}
use Rattle.ac_meaning.specs.Worlds.{World, fresh, done_by, Made, Read, with_crossing}
use Rattle.ac_meaning.specs.Acts.{Act, Turns, Raises, At, Over, Returned, iter}
use Rattle.ac_rules.specs.Plain.{packed}
use Rattle.ac_meaning.specs.Packing.{packing, landing, marshal_step, bare_marshal_step, unmarshal_step, marshal_failure_exn, unmarshal_failure_exn, raising}
use Rattle.ac_meaning.specs.Reduction.{step}
use Rattle.ac_meaning.specs.BareTerms.{WUnit, bare_term, bare_value}
use Rattle.ac_meaning.specs.BareReduction as lean
use Rattle.ac_meaning.proofs.Programs.{has_printed, number, plus, print_int}
use Rattle.ac_types.specs.Sigs.{MyName}

abbrev pub a_mark : Bytes → Entry
a_mark s = record { def = AMark s; name = None; seen = Own'; link = None }

abbrev pub sent_of : Expr → Expr
sent_of e = Prim primitives.send (exprs (e ∷ []))

abbrev pub receive : Expr
receive = Prim primitives.receive (exprs (Unit' ∷ []))

-- `mark "StdLib" IO.send (marshal "StdLib" 5 : int)`: 17 bytes
abbrev pub five_bytes : Bytes
five_bytes = 0x41 ∷ 0x43 ∷ 0x55 ∷ 0x50 ∷ 0x01 ∷ 0x00 ∷ 0x00 ∷ 0x01 ∷ 0x01 ∷ 0x00 ∷ 0x00 ∷ 0x00 ∷ 0x00 ∷ 0x00 ∷ 0x00 ∷ 0x00 ∷ 0x05 ∷ []

abbrev send_five : Expr
send_five = sent_of (Marshal TInt (Str (codes "StdLib")) (number 5))

abbrev five_world : World
five_world = fresh (a_mark (codes "StdLib") ∷ []) [] true

pub five_is_sent : iter (step Coloured 0) 4 (At send_five five_world) ≡ Over (Returned VUnit (record five_world { writes = Send five_bytes ∷ []; crossings = Made five_bytes ∷ []; before_writes = done_by (record five_world { crossings = Made five_bytes ∷ [] }) ∷ [] }))
unfolding packing
five_is_sent = refl

pub five_is_sent_plain : iter (step Plain 0) 4 (At send_five five_world) ≡ Over (Returned VUnit (record five_world { writes = Send five_bytes ∷ []; crossings = Made five_bytes ∷ []; before_writes = done_by (record five_world { crossings = Made five_bytes ∷ [] }) ∷ [] }))
unfolding packing
five_is_sent_plain = refl

pub five_is_sent_bare : iter (lean.step 0) 4 (At (bare_term Main send_five) five_world) ≡ Over (Returned WUnit (record five_world { writes = Send five_bytes ∷ []; crossings = Made five_bytes ∷ []; before_writes = done_by (record five_world { crossings = Made five_bytes ∷ [] }) ∷ [] }))
unfolding packing
five_is_sent_bare = refl

-- `IO.print_int (3 + (unmarshal (IO.receive ()) as int))`
abbrev add_received : Expr
add_received = print_int (plus (number 3) (Unmarshal TInt receive))

abbrev in_a_frame : World
in_a_frame = fresh [] (0 ∷ 0 ∷ 0 ∷ 0x11 ∷ five_bytes) false

pub eight_is_printed : iter (step Coloured 0) 9 (At add_received in_a_frame) ≡ Over (Returned VUnit (record (fresh [] [] false) { writes = Print (codes "8") ∷ []; crossings = Read five_bytes ∷ []; before_writes = record (has_printed []) { crossings = Read five_bytes ∷ [] } ∷ []; receives = has_printed [] ∷ [] }))
unfolding int_wrap digits is_reserved landing
eight_is_printed = refl

pub eight_is_printed_bare : iter (lean.step 0) 9 (At (bare_term Main add_received) in_a_frame) ≡ Over (Returned WUnit (record (fresh [] [] false) { writes = Print (codes "8") ∷ []; crossings = Read five_bytes ∷ []; before_writes = record (has_printed []) { crossings = Read five_bytes ∷ [] } ∷ []; receives = has_printed [] ∷ [] }))
unfolding int_wrap digits is_reserved landing
eight_is_printed_bare = refl

-- no front of these bytes spells a packet, and one byte more is too many
abbrev no_front : ℕ → Bytes → Bool
no_front zero bs = true
no_front (suc n) bs = elim (is_none (packet_of (take n bs))) [ true ↦ no_front n bs | false ↦ false ]

pub no_front_is_a_packet : no_front 17 five_bytes ≡ true
unfolding is_reserved
no_front_is_a_packet = refl

pub no_byte_follows : packet_of (five_bytes ++ 0 ∷ []) ≡ None
unfolding is_reserved
no_byte_follows = refl

abbrev of_nothing : World
of_nothing = fresh [] [] false

abbrev opened : Bytes → Act Expr Value
opened s = unmarshal_step Coloured of_nothing Main TInt (VStr s)

-- a string that is refused is read all the same: the step becomes the raise in the world that has it
abbrev refused_so : Bytes → Bytes → Act Expr Value
refused_so s why = Turns (with_crossing (Read s) of_nothing) (raising TInt (unmarshal_failure_exn why))

pub no_bytes : opened [] ≡ refused_so [] (codes "format")
unfolding landing
no_bytes = refl

-- a truth value of 2; another type; a value that isn't of the type
abbrev truth_of_two : Bytes
truth_of_two = codes "ACUP" ++ 1 ∷ 0 ∷ 0 ∷ 2 ∷ 2 ∷ 2 ∷ []

pub not_a_truth_value : opened truth_of_two ≡ refused_so truth_of_two (codes "format")
unfolding is_reserved landing
not_a_truth_value = refl

abbrev of_bool : Bytes
of_bool = codes "ACUP" ++ 1 ∷ 0 ∷ 0 ∷ 2 ∷ 2 ∷ 1 ∷ []

pub another_type : opened of_bool ≡ refused_so of_bool (codes "type")
unfolding is_reserved landing
another_type = refl

abbrev of_no_int : Bytes
of_no_int = codes "ACUP" ++ 1 ∷ 0 ∷ 0 ∷ 1 ∷ 2 ∷ 1 ∷ []

pub another_value : opened of_no_int ≡ refused_so of_no_int (codes "value")
unfolding is_reserved landing
another_value = refl

-- without the mark
pub no_mark : marshal_step of_nothing Main TInt (VStr (codes "X")) (VInt (pos 5)) ≡ Raises (marshal_failure_exn (codes "mark"))
unfolding packing
no_mark = refl

-- the mark comes before what can't travel
pub mark_first : marshal_step of_nothing Main (TFun TInt TInt) (VStr (codes "X")) (VLam TBool (Var 0)) ≡ Raises (marshal_failure_exn (codes "mark"))
unfolding packing
mark_first = refl

-- `((1, "a") :: ([] : (int * string) list))`
abbrev an_entry : Typ
an_entry = TTuple (typs (TInt ∷ TStr ∷ []))

abbrev marked : World
marked = fresh (a_mark (codes "MK") ∷ []) [] false

abbrev pairs_bytes : Bytes
pairs_bytes =
    0x41 ∷ 0x43 ∷ 0x55 ∷ 0x50 ∷ 0x01 ∷ 0x00 ∷ 0x00 ∷ 0x07 ∷ 0x06 ∷ 0x02 ∷ 0x01 ∷ 0x03 ∷
    0x07 ∷ 0x00 ∷ 0x00 ∷ 0x00 ∷ 0x01 ∷ 0x06 ∷ 0x02 ∷ 0x01 ∷ 0x00 ∷ 0x00 ∷ 0x00 ∷ 0x00 ∷ 0x00 ∷ 0x00 ∷ 0x00 ∷ 0x01 ∷ 0x03 ∷ 0x00 ∷ 0x00 ∷ 0x00 ∷ 0x01 ∷ 0x61 ∷ []

pub a_list_of_pairs :
    marshal_step marked Main (TList an_entry) (VStr (codes "MK")) (VCons (VTuple (value (VInt (pos 1)) (value (VStr (codes "a")) no_values))) (VNil (TList an_entry))) ≡
    Turns (with_crossing (Made pairs_bytes) marked) (Str pairs_bytes)
unfolding packing
a_list_of_pairs = refl

-- a function of one module at another module's abstract type can't travel, unless it is wrapped
abbrev increments : Environment
increments = increment ++ a_mark (codes "MK") ∷ []

abbrev foreign : Value
foreign = VProxy (In 1) b_t b_t (VProxy (In 0) TInt TInt (VLam TInt (Var 0)))

pub a_foreign_function : marshal_step (fresh increments [] false) Main (TFun b_t b_t) (VStr (codes "MK")) foreign ≡ Raises (marshal_failure_exn (codes "function"))
unfolding packing
a_foreign_function = refl

pub a_foreign_function_bare :
    bare_marshal_step (fresh increments [] false) (TFun b_t b_t) (bare_value Main (VStr (codes "MK"))) (bare_value Main foreign) ≡ Raises (marshal_failure_exn (codes "function"))
unfolding packing
a_foreign_function_bare = refl

-- `fun (x : B.t) -> B.f x`
abbrev wrapped : Value
wrapped = VLam b_t (App (Ref 1 (codes "f")) (Var 0))

abbrev gives : Act Expr Value → Bool
gives (Turns z (Str s)) = true
gives a = false

pub a_wrapped_function : gives (marshal_step (fresh increments [] false) Main (TFun b_t b_t) (VStr (codes "MK")) wrapped) ≡ true
unfolding packing
a_wrapped_function = refl

-- what is captured is packed, at its variable's type, in the home of its function
pub captured :
    packed one_entry Main (VProxy (In 0) c_t TInt (VLam TInt (Evaluated TInt (VInt (pos 2))))) (TFun c_t TInt) ≡ KFun (In 0) (Lam TInt (Val TInt (KInt (pos 2))))
captured = refl

-- `let rec w (n : int) : unit -> int = if n = 0 then (fun (u : unit) -> 0) else let f : unit -> int = w (n - 1) in (fun (u : unit) -> f ())`: w 100 nests 403 deep, w 200 too far
abbrev thunk : Typ
thunk = TFun TUnit TInt

abbrev w : ℕ → Value
w zero = VLam TUnit (number 0)
w (suc n) = VLam TUnit (App (Evaluated thunk (w n)) Unit')

pub nests_403 : value_nesting (packed [] Main (w 100) thunk) ≡ 403
nests_403 = refl

pub not_too_far : first_fault 500 1048576 0 (packed_heads thunk (packed [] Main (w 100) thunk)) ≡ None
not_too_far = refl

pub too_far : marshalled (a_mark (codes "MK") ∷ []) (codes "MK") thunk (packed [] Main (w 200) thunk) ≡ NoString Depth
too_far = refl

-- a definition that the value needs nests too far: 500 options round a number nest 501 deep, 499 of them 500
abbrev options : ℕ → Expr
options zero = number 0
options (suc n) = Present (options n)

abbrev with_field : Expr → Packet
with_field e = record {
  defs = AModule (record {
    name = codes "N";
    version = MyName ∷ [];
    sig = record { types = []; vals = [] };
    types = [];
    fields = record { name = codes "v"; ty = TInt; term = e } ∷ [];
  }) ∷ [];
  ty = TUnit;
  value = KUnit;
}

pub a_deep_definition : whole_fault (with_field (options 500)) ≡ Some Depth
a_deep_definition = refl

pub no_deep_definition : whole_fault (with_field (options 499)) ≡ None
no_deep_definition = refl

-- the part that fails first decides, and of one part the nesting, then the travel, then the size; here 30 bytes are too many
abbrev two_parts : Typ → Typ → Typ
two_parts T U = TTuple (typs (T ∷ U ∷ []))

abbrev pair_of : Value → Value → Value
pair_of v u = VTuple (value v (value u no_values))

abbrev fault_of : ℕ → Typ → Value → Option Fault
fault_of deep T v = first_fault deep 30 0 (packed_heads T (packed [] Main v T))

abbrev long : Value
long = VStr (replicate 20 120)

abbrev no_traveller : Value
no_traveller = VLam TBool (Var 0)

pub string_first : fault_of 9 (two_parts TStr (TFun TInt TInt)) (pair_of long no_traveller) ≡ Some Size
string_first = refl

pub function_first : fault_of 9 (two_parts (TFun TInt TInt) TStr) (pair_of no_traveller long) ≡ Some Function
function_first = refl

pub depth_before_travel : fault_of 1 (two_parts (TFun TInt TInt) TStr) (pair_of no_traveller long) ≡ Some Depth
depth_before_travel = refl

-- a captured string is too long before the function that is captured after it can't travel; the outer function's type asks nothing of what is captured
abbrev captures : Value → Value → Value
captures v u = VLam TUnit (App (Lam (TFun TInt TInt) (Evaluated TStr v)) (Evaluated (TFun TInt TInt) u))

pub captured_string_first : fault_of 9 (TFun TUnit TStr) (captures long no_traveller) ≡ Some Size
captured_string_first = refl

pub captured_function : fault_of 9 (TFun TUnit TStr) (captures (VStr []) no_traveller) ≡ Some Function
captured_function = refl

-- the head of a tuple is within 20 bytes and the int in it is not
pub sixteen_bytes_fit : first_fault 9 13 0 (packed_heads TInt (KInt (pos 5))) ≡ None
sixteen_bytes_fit = refl

pub at_the_limit : first_fault 9 9 0 (packed_heads TInt (KInt (pos 5))) ≡ Some Size
at_the_limit = refl

-- a string of 1,048,576 bytes is too long by its own head; a list so long isn't computed with, so this is said of each such string
more : (n m : ℕ) → suc n ≤ m → nat_lt n m ≡ true
more n m e = grind (arith, nat_tests)

pub too_long : (s : Bytes) → length s ≡ 1048576 → marshalled (a_mark (codes "MK") ∷ []) (codes "MK") TStr (KStr s) ≡ NoString Size
too_long s e =
    ap (λ b. behind (a_mark (codes "MK") ∷ []) 0 TStr (KStr s) (option_or (option_or (given b (Some Size)) None) None))
    (more 1048576 (1 + length (value_bytes two_written (KStr s))) (omega (arith, e)))
