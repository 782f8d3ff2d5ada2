use Rattle.std.proofs.Common.{◌≡◌, ◌≤◌, ◌++◌, Some, length, drop, map}
use Rattle.ac_types.specs.Types.{Bytes}
use Rattle.std.specs.Option.{option_or}
use Rattle.ac_types.specs.Partial.{given}
use Rattle.ac_types.specs.ReadTypes.{sig_type_of}
use Rattle.ac_index.specs.Noted.{first_under}
use Rattle.ac_terms.proofs.LookUpLaws.{abstract_at}
use Rattle.ac_terms.proofs.look_ups.note_types.Given as goal

abbrev pub invariant-loop-left : goal.invariant-loop-left
invariant-loop-left l = record {
  within : l.left ≤ length l.specs;
  noted : (n t : Bytes) → length n ≡ 32 → first_under l.types (n ++ t) ≡ option_or (first_under l.fn.types (n ++ t)) (given (abstract_at l.name.0 (map sig_type_of (drop l.left l.specs)) n t) (Some l.number));
}

abbrev pub decreases-loop-left : goal.decreases-loop-left
decreases-loop-left l = l.left
