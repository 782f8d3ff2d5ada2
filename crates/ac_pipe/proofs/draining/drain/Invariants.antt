use Rattle.std.proofs.Common.{◌≡◌, ◌≤◌, ◌+◌, ◌-◌, true, length, IsTrue}
use Rattle.ac_pipe.specs.Draining.{most_dropped}
use Rattle.ac_pipe.proofs.draining.drain.Given as goal

abbrev pub invariant-loop-dropped : goal.invariant-loop-dropped
invariant-loop-dropped g l =
    let now = g.P.Spawner.child l.spawner in
    let start = g.P.Spawner.child l.fn.spawner in
    record {
      running : now.running ≡ true;
      within : l.dropped ≤ most_dropped;
      taken : IsTrue g.P.Spawner.told → l.dropped + length now.left ≡ length start.left;
      started : IsTrue g.P.Spawner.told → now.started ≡ start.started;
      status : IsTrue g.P.Spawner.told → now.status ≡ start.status;
      later : start.start_faults ≤ now.start_faults;
      later_reads : start.read_faults ≤ now.read_faults;
    }

abbrev pub decreases-loop-dropped : goal.decreases-loop-dropped
decreases-loop-dropped g l = most_dropped - l.dropped
