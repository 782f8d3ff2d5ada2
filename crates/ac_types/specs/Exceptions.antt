-- The exceptions by their numbers, their names, and which have a text.
use Rattle.std.specs.Prelude.{ℕ, Bool, ◌&&◌, ◌||◌, nat_le, List, [], ◌∷◌, codes, slice_index_or, Option}
use Rattle.std.specs.List.{find}
use Rattle.ac_types.specs.Types.{Bytes, same_bytes}

abbrev pub failure : ℕ
failure = 0

abbrev pub invalid_argument : ℕ
invalid_argument = 1

abbrev pub not_found : ℕ
not_found = 2

abbrev pub division_by_zero : ℕ
division_by_zero = 3

abbrev pub match_failure : ℕ
match_failure = 4

abbrev pub end_of_file : ℕ
end_of_file = 5

abbrev pub sys_error : ℕ
sys_error = 6

abbrev pub marshal_failure : ℕ
marshal_failure = 7

abbrev pub unmarshal_failure : ℕ
unmarshal_failure = 8

abbrev pub resolve_failure : ℕ
resolve_failure = 9

abbrev pub exception_numbers : List ℕ
exception_numbers =
    failure ∷ invalid_argument ∷ not_found ∷ division_by_zero ∷ match_failure ∷ end_of_file ∷ sys_error ∷
    marshal_failure ∷ unmarshal_failure ∷ resolve_failure ∷ []

abbrev pub is_exception_number : ℕ → Bool
is_exception_number k = nat_le k resolve_failure

-- in the order of their numbers
abbrev pub exception_names : List (List ℕ)
exception_names =
    codes "Failure" ∷ codes "Invalid_argument" ∷ codes "Not_found" ∷ codes "Division_by_zero" ∷
    codes "Match_failure" ∷ codes "End_of_file" ∷ codes "Sys_error" ∷
    codes "Marshal_failure" ∷ codes "Unmarshal_failure" ∷ codes "Resolve_failure" ∷ []

-- empty where there is none
abbrev pub exception_name : ℕ → List ℕ
exception_name number = slice_index_or exception_names number []

-- the number of the exception of that name
unfoldable pub exception_called : Bytes → Option ℕ
exception_called name = find (λ k. same_bytes (exception_name k) name) exception_numbers

-- an exception has a text exactly for `Failure`, `Invalid_argument` and those from `Sys_error` on
abbrev pub has_text : ℕ → Bool
has_text k = nat_le k invalid_argument || (nat_le sys_error k && nat_le k resolve_failure)
