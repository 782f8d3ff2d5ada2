use Rattle.std.proofs.Common.{◌≡◌, drop}
use Rattle.ac_rules.specs.Typing.{last_of}
use Rattle.ac_check_views.specs.Sites.{typs_of}
use Rattle.ac_check_terms.proofs.ArmLaws.{last_from}
use Rattle.ac_check_terms.proofs.arms.last_type.Given as goal

abbrev pub invariant-loop-ty : goal.invariant-loop-ty
invariant-loop-ty l = last_of (typs_of l.fn.types) ≡ last_from (drop l.ty-index l.ty-items) l.last
