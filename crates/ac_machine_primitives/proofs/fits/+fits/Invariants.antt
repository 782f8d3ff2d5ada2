use Rattle.std.proofs.Common.{◌≡◌, ◌<◌, length}
use Rattle.std.specs.List.{All}
use Rattle.ac_machine_primitives.proofs.PatternLaws.{Left}
use Rattle.ac_machine_primitives.proofs.fits.+fits.Given as goal

abbrev pub invariant-fits_all-loop-i : goal.invariant-fits_all-loop-i
invariant-fits_all-loop-i l = record {
  lengths : length l.pats ≡ length l.vs;
  found : All (λ v. v.0 < length l.store) l.found.items;
  left : Left l.store l.pats l.vs l.initial.found.items l.found.items l.i;
}
