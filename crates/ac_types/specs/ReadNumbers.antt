-- The primitives and the exceptions of the code as the numbers of the definitions.
use Rattle.std.specs.Prelude.{ℕ, Option, Some, None}
use Rattle.ac_types.specs.declared.primitives.Primitive.{Primitive}
use Rattle.ac_types.specs.declared.primitives.Primitive.TheVariants.{Add, Sub, Mul, Div, Rem, Neg, Eq, Lt, Concat, Not, PrintInt, PrintString, Send, Receive, Length, SubString, OfInt}
use Rattle.ac_types.specs.declared.exceptions.BareExn.{BareExn}
use Rattle.ac_types.specs.declared.exceptions.BareExn.TheVariants.{NotFound, DivisionByZero, MatchFailure, EndOfFile}
use Rattle.ac_types.specs.declared.exceptions.TextExn.{TextExn}
use Rattle.ac_types.specs.declared.exceptions.TextExn.TheVariants.{Failure, InvalidArgument, SysError, MarshalFailure, UnmarshalFailure, ResolveFailure}
use Rattle.ac_types.specs.declared.exceptions.ExnKind.{ExnKind}
use Rattle.ac_types.specs.declared.exceptions.ExnKind.TheVariants as kind
use Rattle.ac_types.specs.declared.exceptions.Exn.{Exn}
use Rattle.ac_types.specs.declared.exceptions.Exn.TheVariants as exn
use Rattle.ac_types.specs.Exceptions as exceptions
use Rattle.ac_types.specs.Primitives as primitives
use Rattle.ac_types.specs.Types.{Bytes}

abbrev pub primitive_number : Primitive → ℕ
primitive_number Add = primitives.add
primitive_number Sub = primitives.sub
primitive_number Mul = primitives.mul
primitive_number Div = primitives.div
primitive_number Rem = primitives.rem
primitive_number Neg = primitives.neg
primitive_number Eq = primitives.eq
primitive_number Lt = primitives.lt
primitive_number Concat = primitives.concat
primitive_number Not = primitives.not
primitive_number PrintInt = primitives.print_int
primitive_number PrintString = primitives.print_string
primitive_number Send = primitives.send
primitive_number Receive = primitives.receive
primitive_number Length = primitives.length
primitive_number SubString = primitives.sub_string
primitive_number OfInt = primitives.of_int

-- how many arguments it takes
abbrev pub arity : Primitive → ℕ
arity Add = 2
arity Sub = 2
arity Mul = 2
arity Div = 2
arity Rem = 2
arity Neg = 1
arity Eq = 2
arity Lt = 2
arity Concat = 2
arity Not = 1
arity PrintInt = 1
arity PrintString = 1
arity Send = 1
arity Receive = 1
arity Length = 1
arity SubString = 1
arity OfInt = 1

abbrev pub bare_number : BareExn → ℕ
bare_number NotFound = exceptions.not_found
bare_number DivisionByZero = exceptions.division_by_zero
bare_number MatchFailure = exceptions.match_failure
bare_number EndOfFile = exceptions.end_of_file

abbrev pub texted_number : TextExn → ℕ
texted_number Failure = exceptions.failure
texted_number InvalidArgument = exceptions.invalid_argument
texted_number SysError = exceptions.sys_error
texted_number MarshalFailure = exceptions.marshal_failure
texted_number UnmarshalFailure = exceptions.unmarshal_failure
texted_number ResolveFailure = exceptions.resolve_failure

abbrev pub kind_number : ExnKind → ℕ
kind_number (kind.Bare x) = bare_number x
kind_number (kind.Text x) = texted_number x

-- an exception as its number and its text
abbrev pub exn_number : Exn → ℕ
exn_number (exn.Bare x) = bare_number x
exn_number (exn.Text x text) = texted_number x

abbrev pub exn_text : Exn → Option Bytes
exn_text (exn.Bare x) = None
exn_text (exn.Text x text) = Some text.0
