use Rattle.std.proofs.Common.{◌≡◌, map, drop}
use Rattle.ac_types.specs.ReadTypes.{typ_of}
use Rattle.ac_resolve_signatures.specs.KnownScopes.{size_of_none}
use Rattle.ac_resolve_signatures.specs.inner.TypeSizes.{sizes_after}
use Rattle.ac_resolve_signatures.proofs.size.+ty_size.Given as goal

abbrev pub invariant-sizes-loop-ty : goal.invariant-sizes-loop-ty
invariant-sizes-loop-ty l = sizes_after l.found (map typ_of (drop l.ty-index l.tys)) ≡ sizes_after size_of_none (map typ_of l.tys)
