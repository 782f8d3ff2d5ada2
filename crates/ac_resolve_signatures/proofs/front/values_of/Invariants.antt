use Rattle.std.proofs.Common.{◌≡◌, true, map, drop}
use Rattle.std.specs.Prelude.{is_some, if◌then◌else◌}
use Rattle.ac_types.specs.Types.{Bytes}
use Rattle.ac_types.specs.Sigs.{named_type}
use Rattle.ac_types.specs.ReadTypes.{typed_of}
use Rattle.ac_resolve_signatures.specs.Reads.{contains_name}
use Rattle.ac_resolve_signatures.proofs.front.values_of.Given as goal

abbrev pub invariant-loop-val : goal.invariant-loop-val
invariant-loop-val l = (x : Bytes) →
    (if contains_name l.words x then true else is_some (named_type x (map typed_of (drop l.val-index l.vals)))) ≡ is_some (named_type x (map typed_of l.vals))
