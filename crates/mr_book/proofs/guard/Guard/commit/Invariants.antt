use Rattle.mr_book.proofs.guard.Guard.commit.Given as goal

abbrev pub ghosts-count_one : goal.ghosts-count_one
ghosts-count_one g a = record { list = g.T.Journaled.entries a.value.now }
