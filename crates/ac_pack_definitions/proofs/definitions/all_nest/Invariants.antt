use Rattle.std.proofs.Common.{◌≡◌, drop}
use Rattle.std.specs.List.{list_all}
use Rattle.ac_terms.specs.Read.{environment_of}
use Rattle.ac_pack_definitions.specs.inner.Passing.{nests_at}
use Rattle.ac_pack_definitions.proofs.definitions.all_nest.Given as goal

abbrev pub invariant-loop-k : goal.invariant-loop-k
invariant-loop-k l = list_all (nests_at (environment_of l.env) l.mark) l.chosen ≡ list_all (nests_at (environment_of l.env) l.mark) (drop l.k-index l.chosen)
