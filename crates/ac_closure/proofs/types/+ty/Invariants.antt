use Rattle.std.proofs.Common.{◌≡◌, drop, map}
use Rattle.ac_types.specs.Types.{mentions_of_all, typs}
use Rattle.ac_types.specs.ReadTypes.{typ_of}
use Rattle.ac_closure.specs.inner.Chosen.{with_mentions}
use Rattle.ac_closure.specs.inner.Names.{entry_named}
use Rattle.ac_closure.proofs.types.+ty.Given as goal

abbrev pub invariant-add_types-loop-ty : goal.invariant-add_types-loop-ty
invariant-add_types-loop-ty l =
    let find = entry_named l.names in
    with_mentions find l.set (mentions_of_all (typs (map typ_of (drop l.ty-index l.tys)))) ≡ with_mentions find l.initial.set (mentions_of_all (typs (map typ_of l.tys)))
