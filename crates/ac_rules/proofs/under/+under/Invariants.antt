use Rattle.std.proofs.Common.{◌≡◌, length, map, drop}
use Rattle.ac_types.specs.Types.{same_all, typs, all_with_mine}
use Rattle.ac_types.specs.Sigs.{stand_in}
use Rattle.ac_types.specs.ReadTypes.{typ_of, sig_of}
use Rattle.ac_rules.proofs.under.+under.Given as goal

abbrev pub invariant-are_under-loop-i : goal.invariant-are_under-loop-i
invariant-are_under-loop-i l = record {
  lengths : length l.a ≡ length l.b;
  left :
      same_all (typs (map typ_of l.a)) (all_with_mine (stand_in (sig_of l.target)) (typs (map typ_of l.b)))
      ≡ same_all (typs (map typ_of (drop l.i l.a))) (all_with_mine (stand_in (sig_of l.target)) (typs (map typ_of (drop l.i l.b))));
}
