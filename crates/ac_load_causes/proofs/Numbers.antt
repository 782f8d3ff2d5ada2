-- Numbers under names.
use Rattle.std.proofs.Common.{◌≡◌, ℕ, Bor, Some}
use Rattle.std.specs.Ordering.{nat_cmp}
use Rattle.std.specs.Cmp.Lexicographic.{slice_cmp}
use Rattle.std.specs.BTreeMap as tree_map
use Rattle.std.proofs.Math.Path.{fun_ext}
use Rattle.std.proofs.lemmas.Map.Text.{btree_map_updates_str}
use Rattle.ac_types.specs.Types.{Bytes}
use Rattle.ac_load_causes.specs.inner.Named.{number_under, put_number}

pub number_put : (old new : tree_map.BTreeMap (Bor Bytes) ℕ) (k : Bor Bytes) (a : ℕ) → tree_map.Updates (λ (x y : Bor Bytes). slice_cmp nat_cmp x.now y.now) old new k (Some a) → number_under new ≡ put_number k.now a (number_under old)
number_put old new k a u = fun_ext (λ t. btree_map_updates_str k.now old new (Some a) u t)
