use Rattle.std.proofs.Common.{◌≡◌, true, drop, map}
use Rattle.std.specs.List.{list_all}
use Rattle.std.specs.Option.{option_map_or}
use Rattle.ac_types.specs.Sigs.{Sig_type}
use Rattle.ac_types.specs.ReadTypes.{sig_type_of, sig_of}
use Rattle.ac_rules.specs.Modules.{is_closed}
use Rattle.ac_admit_formed.proofs.closed.manifest_closed.Given as goal

abbrev pub invariant-loop-x : goal.invariant-loop-x
invariant-loop-x l =
    let closed = λ (x : Sig_type). option_map_or (is_closed (sig_of l.sig)) x.manifest true in
    list_all closed (map sig_type_of l.types) ≡ list_all closed (map sig_type_of (drop l.x-index l.types))
