use Rattle.mr_book.proofs.tests.two_threads.Given as goal

-- the book that was just opened
abbrev pub ghosts-worked_on_threads : goal.ghosts-worked_on_threads
ghosts-worked_on_threads g a = record { table = a.opened.table }
