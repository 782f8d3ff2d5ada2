use Rattle.std.proofs.Common.{◌≡◌, length, map, drop}
use Rattle.ac_types.specs.Types.{same_all, typs}
use Rattle.ac_types.specs.ReadTypes.{typ_of}
use Rattle.ac_terms.specs.Read.{module_of_code}
use Rattle.ac_modules.specs.inner.Asked.{all_inside}
use Rattle.ac_modules.proofs.cover.+inside.Given as goal

abbrev pub invariant-are_inside-loop-i : goal.invariant-are_inside-loop-i
invariant-are_inside-loop-i l = record {
  lengths : length l.tys ≡ length l.written;
  left :
      same_all (typs (map typ_of l.tys)) (all_inside (module_of_code l.m) (typs (map typ_of l.written)))
      ≡ same_all (typs (map typ_of (drop l.i l.tys))) (all_inside (module_of_code l.m) (typs (map typ_of (drop l.i l.written))));
}
