use Rattle.std.proofs.Common.{◌≡◌, take, map, Ok}
use Rattle.ac_batch.proofs.batch.collected.Given as goal

abbrev pub invariant-loop-found : goal.invariant-loop-found
invariant-loop-found l = map Ok l.all ≡ take l.found-index l.results
