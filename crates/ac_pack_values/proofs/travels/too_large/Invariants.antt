use Rattle.std.proofs.Common.{◌<◌}
use Rattle.ac_types.specs.Types.{height}
use Rattle.ac_types.specs.ReadTypes.{typ_of}
use Rattle.ac_pack_values.proofs.travels.too_large.Given as goal

abbrev pub invariant-loop : goal.invariant-loop
invariant-loop l = l.counter < height (typ_of l.ty)
