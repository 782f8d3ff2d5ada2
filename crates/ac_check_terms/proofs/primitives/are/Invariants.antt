use Rattle.std.proofs.Common.{◌≡◌, length, drop}
use Rattle.ac_types.specs.ReadTypes.{typ_of}
use Rattle.ac_check_views.specs.Sites.{base_typ}
use Rattle.ac_check_views.proofs.PairLaws.{alike}
use Rattle.ac_check_terms.proofs.primitives.are.Given as goal

abbrev pub invariant-loop-i : goal.invariant-loop-i
invariant-loop-i l = record {
  lengths : length l.bases ≡ length l.args;
  left : alike base_typ typ_of l.bases l.args ≡ alike base_typ typ_of (drop l.i l.bases) (drop l.i l.args);
}
