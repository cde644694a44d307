-- How many control entries a daemon with a routing machine makes.
use Rattle.std.specs.Prelude.{◌≡◌, ◌+◌, ◌*◌, ◌≤◌, ℕ, false, List, [], ◌∷◌, ◌++◌, length, sum_by}
use Rattle.std.specs.List.{list_any}
use Rattle.mr_base.specs.Outside.{Files}
use Rattle.mr_model.specs.Legal.{IsLegal}
use Rattle.mr_model.specs.Deeds.{Deed}
use Rattle.mr_model.specs.Past.{is_end, packets_in}
use Rattle.mr_model.specs.declared.entry.Entry.{Entry}
use Rattle.mr_model.specs.declared.entry.Entry.TheVariants.{EndPhase}
use Rattle.mr_model.specs.declared.limits.Limits.{Limits}
use Rattle.mr_scenario.specs.declared.scenario.DaemonKind.TheVariants.{Smc}
use Rattle.mr_scenario.specs.declared.scenario.Phase.{Phase}
use Rattle.mr_scenario.specs.declared.scenario.Scenario.{Scenario}
use Rattle.smc_core.specs.Driving.{Answer, Line, smc}
use Rattle.smc_core.specs.Machine.{Machine}
use Rattle.smc_daemon.specs.Courses.{Drives, DrivesFrom, DrivesTo, IsBegun, machine_behind}
use Rattle.smc_daemon.specs.Deeds.{did}
use Rattle.smc_daemon.specs.Lines.{lines_in}
use Rattle.smc_daemon.specs.Machines.{machine_of}
use Rattle.smc_daemon.specs.Reporting.{brought_in, brought_to_all}
use Rattle.smc_daemon.specs.Room.{least_by, asked_reports}
use Rattle.smc_words.specs.Words.{Word}

-- Whatever a machine is answered, it makes as much as where no receive gives a report,
abbrev pub LeastOfCourses : Type 0
LeastOfCourses = (m : Machine) (lines : List Line) (answers : List Answer) → m.learned ≡ []
    → length (smc m lines []).deeds ≤ length (smc m lines answers).deeds

-- and at most as much more as its reports bring,
abbrev pub MostOfCourses : Type 0
MostOfCourses = (m : Machine) (lines : List Line) (answers : List Answer) → m.learned ≡ []
    → length (smc m lines answers).deeds
    ≤ length (smc m lines []).deeds + brought_in (smc m lines answers).deeds

-- which is three times the receives that its polls ask for, at most.
abbrev pub PolledInCourses : Type 0
PolledInCourses = (m : Machine) (lines : List Line) (answers : List Answer)
    → brought_in (smc m lines answers).deeds ≤ 3 * sum_by asked_reports lines

-- So is it for a daemon over all phases of a scenario,
abbrev pub LeastOfDaemons : Type 0
LeastOfDaemons = (files : Files) (s : Scenario) (d : ℕ) (names : List Word) (h : List Entry)
    → DrivesFrom d (machine_of files s names) [] s.phases h
    → least_by files s d (Smc names) ≤ length (did d [] h)

abbrev pub MostOfDaemons : Type 0
MostOfDaemons = (files : Files) (s : Scenario) (d : ℕ) (names : List Word) (h : List Entry)
    → DrivesFrom d (machine_of files s names) [] s.phases h
    → length (did d [] h) ≤ least_by files s d (Smc names) + brought_in (did d [] h)

-- A daemon that drove its phases so far, and began with the next one: what it made and what it would
-- still make in it are not more either.
abbrev pub MostOfBegun : Type 0
MostOfBegun = (files : Files) (s : Scenario) (d : ℕ) (names : List Word) (done left : List Phase)
    (p : Phase) (before part : List Entry) (m : Machine) (missing : List Deed)
    → s.phases ≡ done ++ p ∷ left
    → DrivesTo d (machine_of files s names) [] done before m
    → IsBegun m (lines_in d p) (did d before part) missing
    → length (did d [] (before ++ part)) + length missing
    ≤ least_by files s d (Smc names) + brought_in (did d [] (before ++ part))

-- One phase more is driven,
abbrev pub DrivesOn : Type 0
DrivesOn = (d : ℕ) (first m : Machine) (ps : List Phase) (p : Phase) (h part : List Entry)
    → DrivesTo d first [] ps h m → list_any is_end part ≡ false → Drives d m p h part
    → DrivesTo d first [] (ps ++ p ∷ []) (h ++ part ++ EndPhase ∷ []) (machine_behind d m p h part)

-- and in the end all.
abbrev pub DrivesAll : Type 0
DrivesAll = (d : ℕ) (first m : Machine) (ps : List Phase) (h : List Entry)
    → DrivesTo d first [] ps h m → DrivesFrom d first [] ps h

-- The reports that the receives of a legal history give bring at most five entries for each of its
-- packets, fast and slow.
abbrev pub BroughtByPackets : Type 0
BroughtByPackets = (limits : Limits) (h : List Entry)
    → IsLegal limits h → brought_to_all h ≤ 5 * sum_by packets_in h
