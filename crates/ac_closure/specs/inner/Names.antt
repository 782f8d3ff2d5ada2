-- The map from names to entries.
use Rattle.std.specs.Prelude.{ℕ, Option}
use Rattle.std.specs.Ordering.{nat_cmp}
use Rattle.std.specs.Cmp.Lexicographic.{slice_cmp}
use Rattle.std.specs.BTreeMap.{BTreeMap, get}
use Rattle.ac_types.specs.Types.{Bytes}

-- the entry that a map has for a name
unfoldable pub entry_named : BTreeMap Bytes ℕ → Bytes → Option ℕ
entry_named names name = get (slice_cmp nat_cmp) names name
