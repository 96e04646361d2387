use Rattle.rdm_launch.proofs.launching.launch.Given as goal

abbrev pub ghosts-run_named : goal.ghosts-run_named
ghosts-run_named g a = record { tables = a.queues.tables; starts = a.ports.items }
