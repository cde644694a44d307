use Rattle.mr_book.proofs.tests.one_thread.Given as goal

-- the book that was just opened
abbrev pub ghosts-worked_row : goal.ghosts-worked_row
ghosts-worked_row g a = record { table = a.opened.table }
