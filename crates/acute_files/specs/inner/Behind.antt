-- What a line has behind the entries in front of it.
use Rattle.std.specs.Prelude.{◌&&◌, Bool, false, List, ◌++◌, length, nat_le, Option, Some, None}
use Rattle.ac_types.specs.Limits.{most_shelf_entries}
use Rattle.ac_rules.specs.Modules.{are_distinct}
use Rattle.acute_files.specs.ShelfLists.{Listed, listed_uris}

-- entries aren't too many, and no two have one URI
abbrev pub are_few : List Listed → Bool
are_few xs = nat_le (length xs) most_shelf_entries && are_distinct (listed_uris xs)

-- what a line has may stand behind them
abbrev pub fits_behind : List Listed → Option (List Listed) → Bool
fits_behind xs None = false
fits_behind xs (Some ys) = are_few (xs ++ ys)
