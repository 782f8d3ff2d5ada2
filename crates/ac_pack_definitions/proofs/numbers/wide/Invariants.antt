use Rattle.std.proofs.Common.{◌≡◌, take}
use Rattle.ac_pack_definitions.proofs.numbers.wide.Given as goal

abbrev pub invariant-loop-n : goal.invariant-loop-n
invariant-loop-n l = l.found.items ≡ take l.n-index l.numbers
