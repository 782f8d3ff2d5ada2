use Rattle.std.proofs.Common.{◌≡◌}
use Rattle.ac_terms.specs.Read.{environment_of}
use Rattle.ac_load.specs.Loading.{shelf_of}
use Rattle.ac_load.proofs.ShelfLaws.{Before}
use Rattle.ac_load.proofs.loading.load.Given as goal

abbrev pub invariant-loop-entry : goal.invariant-loop-entry
invariant-loop-entry l = record {
  part : l.part ≡ l.entry-index;
  before : Before (shelf_of l.shelf) l.entry-index (environment_of l.env);
}
