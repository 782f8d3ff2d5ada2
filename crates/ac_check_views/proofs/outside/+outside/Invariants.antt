use Rattle.std.proofs.Common.{◌≡◌, map, take}
use Rattle.ac_types.specs.Types.{TAbs, with_mine}
use Rattle.ac_types.specs.ReadTypes.{typ_of}
use Rattle.ac_types.specs.declared.ty.Ty.{Ty}
use Rattle.ac_check_views.proofs.outside.+outside.Given as goal

abbrev pub invariant-all_outside-loop-ty : goal.invariant-all_outside-loop-ty
invariant-all_outside-loop-ty l = map typ_of l.found ≡ map (λ (t : Ty). with_mine (TAbs l.name.0) (typ_of t)) (take l.ty-index l.tys)
