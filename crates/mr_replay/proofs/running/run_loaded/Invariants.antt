use Rattle.mr_replay.proofs.running.run_loaded.Given as goal

-- the run whose limits were loaded
abbrev pub ghosts-run_named : goal.ghosts-run_named
ghosts-run_named g a = record { limits = a.loaded.now.limits }
