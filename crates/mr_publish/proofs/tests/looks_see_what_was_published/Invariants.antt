use Rattle.mr_publish.specs.Copies.{empty_tables}
use Rattle.mr_publish.proofs.tests.looks_see_what_was_published.Given as goal

-- the list that was just opened, and the tables before the first change
abbrev pub ghosts-row : goal.ghosts-row
ghosts-row g a = record { list = a.opened; start = empty_tables 4 a.devices.now }
