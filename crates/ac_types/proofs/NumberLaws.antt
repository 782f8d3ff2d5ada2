-- What holds of the numbers of primitives and exceptions: each leads back to its own, and says whether there is a text.
use Rattle.std.proofs.Common.{◌≡◌, refl, ℕ, true, false, List, [], ◌∷◌, get_or}
use Rattle.ac_types.specs.declared.primitives.Primitive.{Primitive}
use Rattle.ac_types.specs.declared.primitives.Primitive.TheVariants.{Add, Sub, Mul, Div, Rem, Neg, Eq, Lt, Concat, Not, PrintInt, PrintString, Send, Receive, Length, SubString, OfInt}
use Rattle.ac_types.specs.declared.exceptions.BareExn.{BareExn}
use Rattle.ac_types.specs.declared.exceptions.BareExn.TheVariants.{NotFound, DivisionByZero, MatchFailure, EndOfFile}
use Rattle.ac_types.specs.declared.exceptions.TextExn.{TextExn}
use Rattle.ac_types.specs.declared.exceptions.TextExn.TheVariants.{Failure, InvalidArgument, SysError, MarshalFailure, UnmarshalFailure, ResolveFailure}
use Rattle.ac_types.specs.declared.exceptions.ExnKind.{ExnKind}
use Rattle.ac_types.specs.declared.exceptions.ExnKind.TheVariants as kind
use Rattle.ac_types.specs.Exceptions.{has_text, is_exception_number}
use Rattle.ac_types.specs.Primitives.{is_primitive}
use Rattle.ac_types.specs.ReadNumbers.{primitive_number, bare_number, texted_number, kind_number}

-- in the order of their numbers
abbrev every_primitive : List Primitive
every_primitive =
    Add ∷ Sub ∷ Mul ∷ Div ∷ Rem ∷ Neg ∷ Eq ∷ Lt ∷ Concat ∷ Not ∷
    PrintInt ∷ PrintString ∷ Send ∷ Receive ∷ Length ∷ SubString ∷ OfInt ∷ []

-- with another one where the number is that of an exception with a text, and the other way round
abbrev bare_ones : List BareExn
bare_ones = NotFound ∷ NotFound ∷ NotFound ∷ DivisionByZero ∷ MatchFailure ∷ EndOfFile ∷ []

abbrev texted_ones : List TextExn
texted_ones =
    Failure ∷ InvalidArgument ∷ Failure ∷ Failure ∷ Failure ∷ Failure ∷ SysError ∷
    MarshalFailure ∷ UnmarshalFailure ∷ ResolveFailure ∷ []

abbrev pub primitive_back : ℕ → Primitive
primitive_back k = get_or every_primitive k Add

abbrev pub bare_back : ℕ → BareExn
bare_back k = get_or bare_ones k NotFound

abbrev pub texted_back : ℕ → TextExn
texted_back k = get_or texted_ones k Failure

pub primitive_again : (p : Primitive) → primitive_back (primitive_number p) ≡ p
primitive_again Add = refl
primitive_again Sub = refl
primitive_again Mul = refl
primitive_again Div = refl
primitive_again Rem = refl
primitive_again Neg = refl
primitive_again Eq = refl
primitive_again Lt = refl
primitive_again Concat = refl
primitive_again Not = refl
primitive_again PrintInt = refl
primitive_again PrintString = refl
primitive_again Send = refl
primitive_again Receive = refl
primitive_again Length = refl
primitive_again SubString = refl
primitive_again OfInt = refl

pub bare_again : (x : BareExn) → bare_back (bare_number x) ≡ x
bare_again NotFound = refl
bare_again DivisionByZero = refl
bare_again MatchFailure = refl
bare_again EndOfFile = refl

pub texted_again : (x : TextExn) → texted_back (texted_number x) ≡ x
texted_again Failure = refl
texted_again InvalidArgument = refl
texted_again SysError = refl
texted_again MarshalFailure = refl
texted_again UnmarshalFailure = refl
texted_again ResolveFailure = refl

pub a_primitive : (p : Primitive) → is_primitive (primitive_number p) ≡ true
a_primitive Add = refl
a_primitive Sub = refl
a_primitive Mul = refl
a_primitive Div = refl
a_primitive Rem = refl
a_primitive Neg = refl
a_primitive Eq = refl
a_primitive Lt = refl
a_primitive Concat = refl
a_primitive Not = refl
a_primitive PrintInt = refl
a_primitive PrintString = refl
a_primitive Send = refl
a_primitive Receive = refl
a_primitive Length = refl
a_primitive SubString = refl
a_primitive OfInt = refl

pub bare_exception : (x : BareExn) → is_exception_number (bare_number x) ≡ true
bare_exception NotFound = refl
bare_exception DivisionByZero = refl
bare_exception MatchFailure = refl
bare_exception EndOfFile = refl

pub texted_exception : (x : TextExn) → is_exception_number (texted_number x) ≡ true
texted_exception Failure = refl
texted_exception InvalidArgument = refl
texted_exception SysError = refl
texted_exception MarshalFailure = refl
texted_exception UnmarshalFailure = refl
texted_exception ResolveFailure = refl

pub an_exception : (x : ExnKind) → is_exception_number (kind_number x) ≡ true
an_exception (kind.Bare x) = bare_exception x
an_exception (kind.Text x) = texted_exception x

pub bare_has_none : (x : BareExn) → has_text (bare_number x) ≡ false
bare_has_none NotFound = refl
bare_has_none DivisionByZero = refl
bare_has_none MatchFailure = refl
bare_has_none EndOfFile = refl

pub texted_has_one : (x : TextExn) → has_text (texted_number x) ≡ true
texted_has_one Failure = refl
texted_has_one InvalidArgument = refl
texted_has_one SysError = refl
texted_has_one MarshalFailure = refl
texted_has_one UnmarshalFailure = refl
texted_has_one ResolveFailure = refl

pub ruleset exception_laws = (bare_has_none, texted_has_one, bare_exception, texted_exception, an_exception)
