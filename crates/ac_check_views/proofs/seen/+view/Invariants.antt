use Rattle.std.proofs.Common.{◌≡◌, map, take}
use Rattle.ac_types.specs.ReadTypes.{typ_of}
use Rattle.ac_types.specs.declared.ty.Ty.{Ty}
use Rattle.ac_check_views.specs.inner.Sizes.{from_home}
use Rattle.ac_check_views.proofs.seen.+view.Given as goal

abbrev pub invariant-all_written_out-loop-ty : goal.invariant-all_written_out-loop-ty
invariant-all_written_out-loop-ty l = map typ_of l.found ≡ map (λ (t : Ty). from_home l.site (typ_of t)) (take l.ty-index l.tys)
