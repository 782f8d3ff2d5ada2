use Rattle.std.proofs.Common.{◌≡◌, ◌≤◌, length, drop, map}
use Rattle.ac_types.specs.ReadTypes.{atom_of, range_of}
use Rattle.ac_version.specs.Versions.{atoms_fit}
use Rattle.ac_version.proofs.meeting.fit.Given as goal

abbrev pub invariant-loop-i : goal.invariant-loop-i
invariant-loop-i l = record {
  below : l.i ≤ length l.ranges;
  enough : length l.ranges ≤ length l.atoms;
  left :
      atoms_fit (map range_of l.ranges) l.star (map atom_of l.atoms)
      ≡ atoms_fit (map range_of (drop l.i l.ranges)) l.star (map atom_of (drop l.i l.atoms));
}
