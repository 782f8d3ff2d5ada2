-- The exceptions of the code have a text exactly where their number wants one.
use Rattle.std.proofs.Common.{◌≡◌, refl, Bool, true, false, ◌&&◌, None, Some}
use Rattle.ac_types.specs.declared.exceptions.BareExn.{BareExn}
use Rattle.ac_types.specs.declared.exceptions.BareExn.TheVariants.{NotFound, DivisionByZero, MatchFailure, EndOfFile}
use Rattle.ac_types.specs.declared.exceptions.Exn.{Exn}
use Rattle.ac_types.specs.declared.exceptions.Exn.TheVariants as exn
use Rattle.ac_types.specs.ReadNumbers.{bare_number, exn_number, exn_text}
use Rattle.ac_types.proofs.NumberLaws.{texted_has_one}
use Rattle.ac_terms.specs.PrimitiveTypes.{is_exception}

pub bare_is : (x : BareExn) → is_exception (bare_number x) None ≡ true
bare_is NotFound = refl
bare_is DivisionByZero = refl
bare_is MatchFailure = refl
bare_is EndOfFile = refl

pub exn_is : (x : Exn) → is_exception (exn_number x) (exn_text x) ≡ true
exn_is (exn.Bare x) = bare_is x
exn_is (exn.Text x text) = texted_has_one x

-- behind another test
pub and_exn : (b : Bool) (x : Exn) → (b && is_exception (exn_number x) (exn_text x)) ≡ b
and_exn true x = exn_is x
and_exn false x = refl

pub ruleset exception_laws = (bare_is, exn_is, and_exn, texted_has_one)
