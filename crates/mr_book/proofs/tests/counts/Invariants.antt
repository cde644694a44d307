use Rattle.mr_book.proofs.tests.counts.Given as goal

-- the book that was just opened
abbrev pub ghosts-counted : goal.ghosts-counted
ghosts-counted g a = record { table = a.opened.table }
