-- The maps, the sets and the scans of the code as what is known.
use Rattle.std.specs.Borrow.{Bor}
use Rattle.std.specs.Prelude.{Bool, Option, option_map}
use Rattle.std.specs.Ordering.{nat_cmp}
use Rattle.std.specs.Cmp.Lexicographic.{slice_cmp}
use Rattle.std.specs.BTreeMap as tree_map
use Rattle.std.specs.BTreeSet as tree_set
use Rattle.ac_types.specs.Types.{Bytes}
use Rattle.ac_syntax.specs.Trees.{NameAt}
use Rattle.ac_resolve_signatures.specs.declared.named.Named.{Named}
use Rattle.ac_resolve_signatures.specs.declared.outside.Outside.{Outside}
use Rattle.ac_resolve_signatures.specs.declared.known.Scan.{Scan}
use Rattle.ac_resolve_signatures.specs.KnownScopes.{KnownScope, Members}

-- what stands under a name, and whether a name is there
abbrev pub under : {A : Type 0} → tree_map.BTreeMap (Bor Bytes) A → Bytes → Option A
under m x = tree_map.get_by (λ (k : Bor Bytes). slice_cmp nat_cmp x k.now) m

abbrev pub contains_name : tree_set.BTreeSet (Bor Bytes) → Bytes → Bool
contains_name s x = tree_set.contains_by (λ (k : Bor Bytes). slice_cmp nat_cmp x k.now) s

abbrev pub named : Named → NameAt
named n = record { at = n.at; word = n.word.now }

abbrev pub members_of : Outside → Members
members_of o = record { types = under o.types; values = contains_name o.values }

abbrev pub externals_of : tree_map.BTreeMap (Bor Bytes) Outside → Bytes → Option Members
externals_of externals m = option_map members_of (under externals m)

abbrev pub known_in : Scan → KnownScope
known_in k = record { outer = externals_of k.externals.now; types = under k.types; fields = contains_name k.fields }
