use Rattle.mr_publish.specs.Copies.{empty_tables}
use Rattle.mr_publish.proofs.tests.looks_beside_publishing.Given as goal

-- the list that was just opened, and the tables before the first change
abbrev pub ghosts-on_threads : goal.ghosts-on_threads
ghosts-on_threads g a = record { list = a.opened; start = empty_tables 4 a.devices.now }
