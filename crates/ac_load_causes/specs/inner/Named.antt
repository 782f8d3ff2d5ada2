-- The first entry of a name that has a text.
use Rattle.std.specs.Borrow.{Bor}
use Rattle.std.specs.Prelude.{ℕ, is_some, Option, Some, if◌then◌else◌}
use Rattle.std.specs.Ordering.{nat_cmp}
use Rattle.std.specs.Cmp.Lexicographic.{slice_cmp}
use Rattle.std.specs.BTreeMap as tree_map
use Rattle.ac_types.specs.Partial.{given}
use Rattle.ac_types.specs.Types.{Bytes, same_bytes}
use Rattle.ac_terms.specs.Defs.{Environment, name_at, names}
use Rattle.ac_terms.specs.Names.{text_of_entry}
use Rattle.ac_load_rules.specs.Causes.{Cause, Clash, first_below}

-- the name of an entry that has a text
abbrev pub told_name : Environment → ℕ → Option Bytes
told_name E i = given (is_some (text_of_entry E i)) (name_at E i)

-- the first below i of that name
abbrev pub first_told : Environment → ℕ → Bytes → Option ℕ
first_told E i n = first_below i (λ j. given (names (told_name E j) n) (Some j))

-- what stands under a name
abbrev pub number_under : tree_map.BTreeMap (Bor Bytes) ℕ → Bytes → Option ℕ
number_under m x = tree_map.get_by (λ (k : Bor Bytes). slice_cmp nat_cmp x k.now) m

abbrev pub put_number : Bytes → ℕ → (Bytes → Option ℕ) → Bytes → Option ℕ
put_number n i f x = if same_bytes n x then Some i else f x

-- two numbers as a clash
abbrev pub clash : ℕ × ℕ → Cause
clash p = Clash p.0 p.1
