-- The primitives by their numbers, and their names.
use Rattle.std.specs.Prelude.{ℕ, Bool, nat_le, List, [], ◌∷◌, codes, slice_index_or, Option}
use Rattle.std.specs.List.{find}
use Rattle.ac_types.specs.Types.{Bytes, same_bytes}

abbrev pub add : ℕ
add = 0

abbrev pub sub : ℕ
sub = 1

abbrev pub mul : ℕ
mul = 2

abbrev pub div : ℕ
div = 3

abbrev pub rem : ℕ
rem = 4

abbrev pub neg : ℕ
neg = 5

abbrev pub eq : ℕ
eq = 6

abbrev pub lt : ℕ
lt = 7

abbrev pub concat : ℕ
concat = 8

abbrev pub not : ℕ
not = 9

abbrev pub print_int : ℕ
print_int = 10

abbrev pub print_string : ℕ
print_string = 11

abbrev pub send : ℕ
send = 12

abbrev pub receive : ℕ
receive = 13

abbrev pub length : ℕ
length = 14

abbrev pub sub_string : ℕ
sub_string = 15

abbrev pub of_int : ℕ
of_int = 16

abbrev pub primitive_numbers : List ℕ
primitive_numbers =
    add ∷ sub ∷ mul ∷ div ∷ rem ∷ neg ∷ eq ∷ lt ∷ concat ∷ not ∷
    print_int ∷ print_string ∷ send ∷ receive ∷ length ∷ sub_string ∷ of_int ∷ []

abbrev pub is_primitive : ℕ → Bool
is_primitive k = nat_le k of_int

-- in the order of their numbers
abbrev pub primitive_names : List (List ℕ)
primitive_names =
    codes "add" ∷ codes "sub" ∷ codes "mul" ∷ codes "div" ∷ codes "mod" ∷ codes "neg" ∷
    codes "eq" ∷ codes "lt" ∷ codes "concat" ∷ codes "not" ∷
    codes "print_int" ∷ codes "print_string" ∷ codes "send" ∷ codes "receive" ∷
    codes "length" ∷ codes "sub_string" ∷ codes "of_int" ∷ []

-- empty where there is none
abbrev pub primitive_name : ℕ → List ℕ
primitive_name number = slice_index_or primitive_names number []

-- the number of the primitive of that name
unfoldable pub primitive_called : Bytes → Option ℕ
primitive_called name = find (λ k. same_bytes (primitive_name k) name) primitive_numbers
