use Rattle.std.proofs.Common.{◌≡◌, ◌++◌, map, drop}
use Rattle.std.specs.Prelude.{flat_map}
use Rattle.ac_resolve_signatures.specs.Reads.{named}
use Rattle.ac_resolve_signatures.proofs.pick.picked_names.Given as goal

abbrev pub invariant-loop-item : goal.invariant-loop-item
invariant-loop-item g l = flat_map g.P.Pick.picks (map g.P.Pick.read l.items) ≡ map named l.names.items ++ flat_map g.P.Pick.picks (map g.P.Pick.read (drop l.item-index l.items))
