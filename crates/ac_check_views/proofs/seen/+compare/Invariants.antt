use Rattle.std.proofs.Common.{◌≡◌, length, drop}
use Rattle.ac_types.specs.Types.{same_all, all_with_each}
use Rattle.ac_terms.specs.Read.{home_of}
use Rattle.ac_rules.specs.Views.{opened_at_home}
use Rattle.ac_check_views.specs.Sites.{typs_of, entries_of}
use Rattle.ac_check_views.proofs.seen.+compare.Given as goal

abbrev pub invariant-are_viewed_as-loop-i : goal.invariant-are_viewed_as-loop-i
invariant-are_viewed_as-loop-i l = record {
  lengths : length l.written ≡ length l.tys;
  left :
      same_all (all_with_each (opened_at_home (entries_of l.site) (home_of l.site.home)) (typs_of l.written)) (typs_of l.tys)
      ≡ same_all (all_with_each (opened_at_home (entries_of l.site) (home_of l.site.home)) (typs_of (drop l.i l.written))) (typs_of (drop l.i l.tys));
}
