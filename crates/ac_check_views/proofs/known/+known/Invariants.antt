use Rattle.std.proofs.Common.{◌≡◌, drop}
use Rattle.ac_terms.specs.Read.{environment_of}
use Rattle.ac_check_views.specs.Sites.{typs_of}
use Rattle.ac_check_views.specs.inner.Sizes.{are_known_in}
use Rattle.ac_check_views.proofs.known.+known.Given as goal

abbrev pub invariant-all_are_known-loop-ty : goal.invariant-all_are_known-loop-ty
invariant-all_are_known-loop-ty l = are_known_in (environment_of l.env) (typs_of (drop l.ty-index l.tys)) ≡ are_known_in (environment_of l.env) (typs_of l.tys)
