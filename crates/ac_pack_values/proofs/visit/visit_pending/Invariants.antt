use Rattle.std.proofs.Common.{◌≡◌, []}
use Rattle.ac_pack_terms.specs.inner.Goes.{comes}
use Rattle.ac_pack_values.proofs.visit.visit_pending.Given as goal

abbrev pub invariant-loop : goal.invariant-loop
invariant-loop l = record {
  site : l.walk.site ≡ l.initial.walk.site;
  comes : comes [] [] l.walk ≡ comes [] [] l.initial.walk;
}
