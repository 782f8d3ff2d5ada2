-- Constants, exceptions and primitives.
use Rattle.std.specs.Prelude.{ℕ, Bool, true, false, List, [], ◌∷◌, Option, Some, None}
use Rattle.ac_types.specs.Types.{Bytes}
use Rattle.ac_terms.specs.Terms.{Expr, Int, Boolean, Str, Unit', Tuple, exprs, Value, VInt, VBool, VStr, VUnit, VExn, VTuple, Values, no_values, value}
use Rattle.ac_code.specs.Constants.{Const, CInt, CBool, CStr, CUnit, CPart, PrimitiveAnswer, Yields, Prints, Sends, Receives, Fails, NoSense, Meaning, meaning, primitive_answer}
use Rattle.ac_meaning.specs.Worlds.{Exception, World, exception, end_of_file_exn, no_channel, bad_frame, with_write, with_receive, with_left}
use Rattle.ac_meaning.specs.Writes.{Print, Send}
use Rattle.ac_outside.specs.Frames.{Frame, Whole, Bad, AtEnd, next_frame}
use Rattle.ac_meaning.specs.Acts.{Act, Is, Goes, Turns, Raises, Wrong}

-- the constant that a value is; a string with two ints is the argument of `Str.sub`
abbrev pub const_of_parts : Values → Option Const
const_of_parts (value (VStr s) (value (VInt i) (value (VInt n) no_values))) = Some (CPart s i n)
const_of_parts vs = None

abbrev pub const_of : Value → Option Const
const_of (VInt n) = Some (CInt n)
const_of (VBool b) = Some (CBool b)
const_of (VStr s) = Some (CStr s)
const_of VUnit = Some CUnit
const_of (VTuple vs) = const_of_parts vs
const_of _ = None

abbrev pub all_there : Option Const → Option (List Const) → Option (List Const)
all_there (Some c) (Some cs) = Some (c ∷ cs)
all_there _ _ = None

-- the constants that values are, where each is one
abbrev pub consts_of : Values → Option (List Const)
consts_of no_values = Some []
consts_of (value v vs) = all_there (const_of v) (consts_of vs)

-- a constant as a term; no primitive gives a part of a string
abbrev pub spelled : Const → Expr
spelled (CInt n) = Int n
spelled (CBool b) = Boolean b
spelled (CStr s) = Str s
spelled CUnit = Unit'
spelled (CPart s i n) = Tuple (exprs (Str s ∷ Int i ∷ Int n ∷ []))

-- what a primitive answers of values
abbrev pub answer_at : Option Meaning → Option (List Const) → PrimitiveAnswer
answer_at (Some m) (Some cs) = primitive_answer m cs
answer_at _ _ = NoSense

abbrev pub primitive : ℕ → Values → PrimitiveAnswer
primitive k vs = answer_at (meaning k) (consts_of vs)

-- what a primitive does, where constants are spelled so
module _ {T A : Type 0} (spell : Const → T) where
  -- a string is sent where there is a channel
  abbrev pub sending : Bool → Bytes → World → Act T A
  sending true s z = Turns (with_write (Send s) z) (spell CUnit)
  sending false s z = Raises no_channel

  -- and where the raise of an exception, in the place of a string, is spelled so
  module _ (raise : Exception → T) where
    -- the next frame is received: in the world that has the receive, it becomes its string; where there is none, the input stays as it is, and it becomes the raise of why
    abbrev pub receiving : Frame → World → Act T A
    receiving (Whole s rest) z = Turns (with_left rest (with_receive z)) (spell (CStr s))
    receiving (Bad n got) z = Turns (with_receive z) (raise bad_frame)
    receiving AtEnd z = Turns (with_receive z) (raise end_of_file_exn)

    -- an applied primitive becomes its answer
    abbrev pub answered : World → PrimitiveAnswer → Act T A
    answered z (Yields c) = Goes (spell c)
    answered z (Prints s) = Turns (with_write (Print s) z) (spell CUnit)
    answered z (Sends s) = sending z.has_channel s z
    answered z Receives = receiving (next_frame z.input) z
    answered z (Fails k s) = Raises (exception k s)
    answered z NoSense = Wrong

-- an exception with a text, and an exception as a value
abbrev pub exception_of : ℕ → Value → Act Expr Value
exception_of k (VStr s) = Is (VExn k (Some s))
exception_of _ _ = Wrong

abbrev pub exception_value : Exception → Value
exception_value x = VExn x.number x.text

-- an exception is raised
abbrev pub thrown : Value → Act Expr Value
thrown (VExn k s) = Raises (exception k s)
thrown _ = Wrong
