use Rattle.std.proofs.Common.{◌≡◌, drop, map}
use Rattle.std.specs.List.{list_all}
use Rattle.ac_types.specs.Types.{Bytes, typs}
use Rattle.ac_types.specs.Sigs.{is_abstract, type_under}
use Rattle.ac_types.specs.ReadTypes.{typ_of, sig_of}
use Rattle.ac_rules.specs.Modules.{all_mine}
use Rattle.ac_admit_formed.proofs.closed.+closed.Given as goal

abbrev pub invariant-are_closed-loop-ty : goal.invariant-are_closed-loop-ty
invariant-are_closed-loop-ty l =
    let closed = λ (t : Bytes). is_abstract (type_under t (sig_of l.sig).types) in
    list_all closed (all_mine (typs (map typ_of l.tys))) ≡ list_all closed (all_mine (typs (map typ_of (drop l.ty-index l.tys))))
