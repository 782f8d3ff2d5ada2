use Rattle.ac_chain.proofs.program.run_linked.Given as goal

abbrev pub ghosts-run_at : goal.ghosts-run_at
ghosts-run_at g a = record { console = a.console.ghost_name }
