use Rattle.mr_replay.proofs.running.run_named.Given as goal

-- the router that was just opened
abbrev pub ghosts-run_opened : goal.ghosts-run_opened
ghosts-run_opened g a = record { table = a.opened }
