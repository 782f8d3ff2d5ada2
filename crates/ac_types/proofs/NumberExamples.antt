-- Each exception and each primitive stands in its table where its number says.
use Rattle.std.proofs.Common.{◌≡◌, refl, [], map, Some}
use Rattle.std.specs.Prelude.{codes}
use Rattle.ac_types.specs.Exceptions as exceptions
use Rattle.ac_types.specs.Exceptions.{exception_called}
use Rattle.ac_types.specs.Primitives as primitives
use Rattle.ac_types.specs.Primitives.{primitive_called}

pub exceptions_in_order : map exceptions.exception_name exceptions.exception_numbers ≡ exceptions.exception_names
exceptions_in_order = refl

pub primitives_in_order : map primitives.primitive_name primitives.primitive_numbers ≡ primitives.primitive_names
primitives_in_order = refl

pub one_by_name : exceptions.exception_name exceptions.match_failure ≡ codes "Match_failure"
one_by_name = refl

pub none_of_that_number : primitives.primitive_name 17 ≡ []
none_of_that_number = refl

one_called : exception_called (codes "Match_failure") ≡ Some exceptions.match_failure
unfolding exception_called
one_called = refl

a_remainder : primitive_called (codes "mod") ≡ Some primitives.rem
unfolding primitive_called
a_remainder = refl
