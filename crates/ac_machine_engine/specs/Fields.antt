-- Which block gives the value of a field.
use Rattle.std.specs.Prelude.{ℕ, Option, None, option_and_then, slice_get}
use Rattle.ac_types.specs.Types.{Bytes}
use Rattle.ac_terms.specs.Terms.{Home, Main, In}
use Rattle.ac_terms.specs.Defs.{Environment, module_behind, field_number}
use Rattle.ac_code.specs.Code.{Code, field_code, fields_in}

-- the main program has no fields
abbrev pub block_of_own : Code → Home → ℕ → Option ℕ
block_of_own K Main f = None
block_of_own K (In j) f = field_code K j f

abbrev pub block_of_field : Environment → Code → Bytes → ℕ → Option ℕ
block_of_field E K x m = option_and_then (λ f. field_code K m f) (field_number x (fields_in (slice_get E m)))

-- the field x of entry j, or of what it is linked to
abbrev pub ref_block : Environment → Code → ℕ → Bytes → Option ℕ
ref_block E K j x = option_and_then (block_of_field E K x) (option_and_then (module_behind j) (slice_get E j))
