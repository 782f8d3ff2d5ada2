use Rattle.std.proofs.Common.{◌≡◌, ◌++◌, drop, map}
use Rattle.ac_types.specs.Types.{typs}
use Rattle.ac_types.specs.ReadTypes.{typ_of}
use Rattle.ac_terms.specs.Spelling.{all_type_bytes}
use Rattle.ac_canon.proofs.types.+ty.Given as goal

abbrev pub invariant-put_types-loop-ty : goal.invariant-put_types-loop-ty
invariant-put_types-loop-ty l = l.out ++ all_type_bytes (typs (map typ_of (drop l.ty-index l.tys))) ≡ l.initial.out ++ all_type_bytes (typs (map typ_of l.tys))
