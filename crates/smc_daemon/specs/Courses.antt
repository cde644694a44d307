-- What a daemon that drives a routing machine did in a history. Its machine goes on from phase to
-- phase, and a report's addresses stand in the Slow of its packet, which may be of a phase before.
use Rattle.std.specs.Prelude.{◌≡◌, ℕ, false, List, [], ◌∷◌, ◌++◌}
use Rattle.std.specs.List.{list_any}
use Rattle.mr_model.specs.Deeds.{Deed}
use Rattle.mr_model.specs.Past.{is_end}
use Rattle.mr_model.specs.declared.entry.Entry.{Entry}
use Rattle.mr_model.specs.declared.entry.Entry.TheVariants.{EndPhase}
use Rattle.mr_scenario.specs.declared.scenario.Phase.{Phase}
use Rattle.smc_core.specs.Driving.{Course, Line, smc, answers_in}
use Rattle.smc_core.specs.Machine.{Machine}
use Rattle.smc_daemon.specs.Deeds.{did}
use Rattle.smc_daemon.specs.Lines.{lines_in}

-- what a machine makes of lines, with the replies and reports that stand in what was done
abbrev pub course : Machine → List Line → List Deed → Course
course m lines deeds = smc m lines (answers_in deeds)

-- Just this was done: it is what the machine makes.
abbrev pub IsCourse : Machine → List Line → List Deed → Type 0
IsCourse m lines deeds = deeds ≡ (course m lines deeds).deeds

-- This was done, and then the machine would make what is missing, were each further reply good and
-- were there no further report.
abbrev pub IsBegun : Machine → List Line → List Deed → List Deed → Type 0
IsBegun m lines deeds missing = (course m lines deeds).deeds ≡ deeds ++ missing

abbrev pub machine_after : Machine → List Line → List Deed → Machine
machine_after m lines deeds = (course m lines deeds).machine

-- In a phase the daemon did just what its machine makes of its lines.
abbrev pub Drives : ℕ → Machine → Phase → List Entry → List Entry → Type 0
Drives d m p before part = IsCourse m (lines_in d p) (did d before part)

abbrev pub machine_behind : ℕ → Machine → Phase → List Entry → List Entry → Machine
machine_behind d m p before part = machine_after m (lines_in d p) (did d before part)

-- So in each of these phases, of which the entries end with that of the phase's end.
abbrev pub DrivesFrom : ℕ → Machine → List Entry → List Phase → List Entry → Type 0
DrivesFrom d m before [] h = h ≡ []
DrivesFrom d m before (p ∷ ps) h =
    (part : List Entry) × (rest : List Entry) × (h ≡ part ++ EndPhase ∷ rest)
    × (list_any is_end part ≡ false) × Drives d m p before part
    × DrivesFrom d (machine_behind d m p before part) (before ++ part ++ EndPhase ∷ []) ps rest

-- The same, and the last machine is the one behind these phases.
abbrev pub DrivesTo : ℕ → Machine → List Entry → List Phase → List Entry → Machine → Type 0
DrivesTo d m before [] h last = (h ≡ []) × (last ≡ m)
DrivesTo d m before (p ∷ ps) h last =
    (part : List Entry) × (rest : List Entry) × (h ≡ part ++ EndPhase ∷ rest)
    × (list_any is_end part ≡ false) × Drives d m p before part
    × DrivesTo d (machine_behind d m p before part) (before ++ part ++ EndPhase ∷ []) ps rest last
