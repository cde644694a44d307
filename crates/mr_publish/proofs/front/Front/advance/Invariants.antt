use Rattle.mr_publish.proofs.front.Front.advance.Given as goal

-- the changes that are published
abbrev pub ghosts-add : goal.ghosts-add
ghosts-add g a = record { changes = a.changes.now }
