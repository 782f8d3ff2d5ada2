use Rattle.std.proofs.Common.{◌≡◌, ◌++◌, drop, map}
use Rattle.std.specs.Prelude.{flat_map}
use Rattle.ac_types.specs.ReadTypes.{atom_of}
use Rattle.ac_terms.specs.Spelling.{atom_bytes}
use Rattle.ac_canon.proofs.sigs.put_version.Given as goal

abbrev pub invariant-loop-atom : goal.invariant-loop-atom
invariant-loop-atom l = l.out ++ flat_map atom_bytes (map atom_of (drop l.atom-index l.atoms)) ≡ l.initial.out ++ flat_map atom_bytes (map atom_of l.atoms)
