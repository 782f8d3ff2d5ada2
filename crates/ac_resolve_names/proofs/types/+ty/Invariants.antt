use Rattle.std.proofs.Common.{◌≡◌, map, take}
use Rattle.ac_types.specs.ReadTypes.{typ_of}
use Rattle.ac_resolve_names.specs.Fronts.{scope_of}
use Rattle.ac_resolve_names.proofs.TypeLists.{type_made}
use Rattle.ac_resolve_names.proofs.types.+ty.Given as goal

abbrev pub invariant-tys-loop-tree : goal.invariant-tys-loop-tree
invariant-tys-loop-tree l = map typ_of l.found ≡ map (type_made (scope_of l.scope)) (take l.tree-index l.trees)
