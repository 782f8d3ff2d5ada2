use Rattle.std.proofs.Common.{◌≡◌, ◌≤◌, ◌+◌, drop}
use Rattle.ac_types.specs.Types.{parts_of_all, height_of_all}
use Rattle.ac_check_views.specs.inner.Sizes.{all_from_home}
use Rattle.ac_check_views.proofs.sizes.+spend_here.Given as goal

abbrev pub invariant-spend_all_here-loop-ty : goal.invariant-spend_all_here-loop-ty
invariant-spend_all_here-loop-ty l = record {
  spent : l.left + parts_of_all (all_from_home l.site l.tys) ≡ l.initial.left + parts_of_all (all_from_home l.site (drop l.ty-index l.tys));
  lower : height_of_all (all_from_home l.site (drop l.ty-index l.tys)) ≤ height_of_all (all_from_home l.site l.tys);
  low : height_of_all (all_from_home l.site (drop l.ty-index l.tys)) ≤ l.depth → height_of_all (all_from_home l.site l.tys) ≤ l.depth;
}
