use Rattle.std.proofs.Common.{◌≡◌, map, take}
use Rattle.ac_types.specs.ReadTypes.{typ_of}
use Rattle.ac_resolve_names.proofs.TypeLists.{sealed_type}
use Rattle.ac_resolve_names.proofs.sealed.+sealed.Given as goal

abbrev pub invariant-all-loop-ty : goal.invariant-all-loop-ty
invariant-all-loop-ty l = map typ_of l.found ≡ map (sealed_type l.name.0) (take l.ty-index l.tys)
