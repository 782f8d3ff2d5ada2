use Rattle.std.proofs.Common.{◌≡◌, ◌++◌, drop, map}
use Rattle.std.specs.Prelude.{flat_map}
use Rattle.ac_types.specs.ReadTypes.{resolve_of}
use Rattle.ac_terms.specs.Spelling.{resolve_bytes}
use Rattle.ac_canon.proofs.packets.put_resolves.Given as goal

abbrev pub invariant-loop-by : goal.invariant-loop-by
invariant-loop-by l = l.out ++ flat_map resolve_bytes (map resolve_of (drop l.by-index l.places)) ≡ l.initial.out ++ flat_map resolve_bytes (map resolve_of l.places)
