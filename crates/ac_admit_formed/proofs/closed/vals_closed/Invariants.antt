use Rattle.std.proofs.Common.{◌≡◌, drop, map}
use Rattle.std.specs.List.{list_all}
use Rattle.ac_types.specs.Sigs.{Typed_name}
use Rattle.ac_types.specs.ReadTypes.{typed_of, sig_of}
use Rattle.ac_rules.specs.Modules.{is_closed}
use Rattle.ac_admit_formed.proofs.closed.vals_closed.Given as goal

abbrev pub invariant-loop-x : goal.invariant-loop-x
invariant-loop-x l =
    let closed = λ (x : Typed_name). is_closed (sig_of l.sig) x.ty in
    list_all closed (map typed_of l.vals) ≡ list_all closed (map typed_of (drop l.x-index l.vals))
