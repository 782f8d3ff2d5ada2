use Rattle.ac_pipe.proofs.receiving.run_on_child.Given as goal

abbrev pub ghosts-run_at : goal.ghosts-run_at
ghosts-run_at g a = record {
  spawner = a.spawner.ghost_name;
  console = a.console.ghost_name;
  started = (g.P.Spawner.child a.spawner.now).started;
  status = (g.P.Spawner.child a.spawner.now).status;
  left = (g.P.Spawner.child a.spawner.now).left;
  start_faults = (g.P.Spawner.child a.spawner.now).start_faults;
  read_faults = (g.P.Spawner.child a.spawner.now).read_faults;
  console_faults = g.O.Sink.faults a.console.now;
}
