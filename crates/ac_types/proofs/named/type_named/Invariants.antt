use Rattle.std.proofs.Common.{◌≡◌, drop, map}
use Rattle.ac_types.specs.Sigs.{named_type}
use Rattle.ac_types.specs.ReadTypes.{typed_of}
use Rattle.ac_types.proofs.named.type_named.Given as goal

abbrev pub invariant-loop-x : goal.invariant-loop-x
invariant-loop-x l = named_type l.name (map typed_of (drop l.x-index l.types)) ≡ named_type l.name (map typed_of l.types)
