-- Primitives stand in the table of their types where their numbers say.
use Rattle.std.proofs.Common.{◌≡◌, refl, length, Some, None}
use Rattle.ac_types.specs.Primitives as numbers
use Rattle.ac_types.specs.Types.{TInt, TBool, TStr, TUnit, TTuple, no_types, typ}
use Rattle.ac_terms.specs.PrimitiveTypes.{primitives, primitive_type}

each_has_a_rule : length primitives ≡ length numbers.primitive_names
each_has_a_rule = refl

a_remainder : primitive_type numbers.rem (typ TInt (typ TInt no_types)) ≡ Some TInt
a_remainder = refl

a_negation : primitive_type numbers.neg (typ TInt no_types) ≡ Some TInt
a_negation = refl

an_equation : primitive_type numbers.eq (typ TBool (typ TBool no_types)) ≡ Some TBool
an_equation = refl

a_comparison : primitive_type numbers.lt (typ TStr (typ TStr no_types)) ≡ Some TBool
a_comparison = refl

strings_are_joined : primitive_type numbers.concat (typ TStr (typ TStr no_types)) ≡ Some TStr
strings_are_joined = refl

an_opposite : primitive_type numbers.not (typ TBool no_types) ≡ Some TBool
an_opposite = refl

an_int_is_printed : primitive_type numbers.print_int (typ TInt no_types) ≡ Some TUnit
an_int_is_printed = refl

a_string_is_sent : primitive_type numbers.send (typ TStr no_types) ≡ Some TUnit
a_string_is_sent = refl

a_frame_is_received : primitive_type numbers.receive (typ TUnit no_types) ≡ Some TStr
a_frame_is_received = refl

a_length : primitive_type numbers.length (typ TStr no_types) ≡ Some TInt
a_length = refl

a_part : primitive_type numbers.sub_string (typ (TTuple (typ TStr (typ TInt (typ TInt no_types)))) no_types) ≡ Some TStr
a_part = refl

no_sum_of_strings : primitive_type numbers.add (typ TStr (typ TStr no_types)) ≡ None
no_sum_of_strings = refl

digits : primitive_type numbers.of_int (typ TInt no_types) ≡ Some TStr
digits = refl
