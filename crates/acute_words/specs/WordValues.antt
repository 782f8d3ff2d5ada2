-- The values that words may have.
use Rattle.std.specs.Prelude.{ℕ, ◌&&◌, Bool, not, List, length, codes}
use Rattle.std.specs.Prelude.{Option, Some, None, if◌then◌else◌, nat_lt, nat_le, find, slice_get}
use Rattle.std.specs.Prelude.{option_and_then, option_map}
use Rattle.std.specs.List.{list_all}
use Rattle.std.specs.Char.{digit_value}
use Rattle.std.specs.Str.{bytes_eq}
use Rattle.std.specs.Str.Parse.{digits_value}
use Rattle.acute_words.specs.Form.{Given, Text}

-- the values of an option or a place, where it is given
abbrev pub all_in : Text → Given → Option (List Text)
all_in id given = option_map (λ p. p.1) (find (λ p. bytes_eq p.0 id) given)

-- the first of them
abbrev pub first_in : Text → Given → Option Text
first_in id given = option_and_then (λ values. slice_get values 0) (all_in id given)

-- a FILE is neither empty nor `-`
abbrev pub is_file : Text → Bool
is_file text = nat_lt 0 (length text) && not (bytes_eq text (codes "-"))

-- decimal digits alone, at least one
abbrev pub is_decimal : Text → Bool
is_decimal text = nat_lt 0 (length text) && list_all (λ c. nat_lt (digit_value c) 10) text

-- the number that decimal digits write, where it lies between `least` and `most`, both included
abbrev pub number_within : ℕ → ℕ → Text → Option ℕ
number_within least most text =
    let n = digits_value 10 text in
    if is_decimal text && (nat_le least n && nat_le n most) then Some n else None
