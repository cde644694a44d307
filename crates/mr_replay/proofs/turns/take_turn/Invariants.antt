use Rattle.mr_replay.proofs.turns.take_turn.Given as goal

-- the turn of this daemon
abbrev pub ghosts-drive_turn : goal.ghosts-drive_turn
ghosts-drive_turn g a = record { start = a.daemon }
