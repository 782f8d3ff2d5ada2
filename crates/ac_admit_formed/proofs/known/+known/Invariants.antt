use Rattle.std.proofs.Common.{◌≡◌, take, drop, map}
use Rattle.std.specs.List.{list_all}
use Rattle.ac_types.specs.Types.{typs, mentions_of_all}
use Rattle.ac_types.specs.ReadTypes.{typ_of}
use Rattle.ac_terms.specs.Read.{environment_of}
use Rattle.ac_rules.specs.Views.{is_known}
use Rattle.ac_admit_formed.proofs.known.+known.Given as goal

abbrev pub invariant-all_are_known-loop-ty : goal.invariant-all_are_known-loop-ty
invariant-all_are_known-loop-ty l =
    let known = is_known (take l.before (environment_of l.env)) in
    list_all known (mentions_of_all (typs (map typ_of l.tys))) ≡ list_all known (mentions_of_all (typs (map typ_of (drop l.ty-index l.tys))))
