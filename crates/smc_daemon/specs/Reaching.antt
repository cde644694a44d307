-- How far a run of a scenario came, and what its daemons made or lack then.
use Rattle.std.specs.Prelude.{◌≡◌, ◌+◌, ◌≤◌, ℕ, Some, List, [], ◌∷◌, ◌++◌, length, slice_get, sum_by}
use Rattle.mr_base.specs.Outside.{Files}
use Rattle.mr_model.specs.Deeds.{Deed}
use Rattle.mr_model.specs.declared.entry.Entry.{Entry}
use Rattle.mr_scenario.specs.declared.scenario.DaemonKind.{DaemonKind}
use Rattle.mr_scenario.specs.declared.scenario.DaemonKind.TheVariants.{Plain, Admin, Smc}
use Rattle.mr_scenario.specs.declared.scenario.Phase.{Phase}
use Rattle.mr_scenario.specs.declared.scenario.Scenario.{Scenario}
use Rattle.smc_core.specs.Machine.{Machine}
use Rattle.smc_daemon.specs.Courses.{DrivesFrom, DrivesTo, IsBegun}
use Rattle.smc_daemon.specs.Deeds.{did}
use Rattle.smc_daemon.specs.Lines.{lines_in}
use Rattle.smc_daemon.specs.Machines.{machine_of}
use Rattle.smc_daemon.specs.Room.{lines_of}

-- It holds of each daemon, by its number, from 1 on, and its sort.
abbrev pub OfEach : Scenario → (ℕ → DaemonKind → Type 0) → Type 0
OfEach s P = (i : ℕ) (k : DaemonKind) → slice_get s.daemons i ≡ Some k → P (i + 1) k

-- A daemon was through with all phases: its machine drove them, or each of its lines made an entry.
abbrev pub Ran : Files → Scenario → List Entry → ℕ → DaemonKind → Type 0
Ran files s h d (Smc names) = DrivesFrom d (machine_of files s names) [] s.phases h
Ran files s h d Plain = length (did d [] h) ≡ sum_by (lines_of d) s.phases
Ran files s h d Admin = length (did d [] h) ≡ sum_by (lines_of d) s.phases

-- the phases that are done, with their entries, the one that is begun, with its entries so far, and
-- those ahead
pub record Reach : Type 0 where
  pub done : List Phase
  pub before : List Entry
  pub begun : Phase
  pub part : List Entry
  pub ahead : List Phase

abbrev pub made : Reach → List Entry
made r = r.before ++ r.part

abbrev pub IsReach : Scenario → Reach → Type 0
IsReach s r = s.phases ≡ r.done ++ r.begun ∷ r.ahead

-- A daemon lacks so many entries at least: its machine drove the phases that are done, and would
-- still make so many in the one that is begun; or that many of its lines made none.
abbrev pub Lacks : Files → Scenario → Reach → ℕ → DaemonKind → ℕ → Type 0
Lacks files s r d (Smc names) n =
    (m : Machine) × (missing : List Deed)
    × DrivesTo d (machine_of files s names) [] r.done r.before m
    × IsBegun m (lines_in d r.begun) (did d r.before r.part) missing × (n ≤ length missing)
Lacks files s r d Plain n = length (did d [] (made r)) + n ≤ sum_by (lines_of d) s.phases
Lacks files s r d Admin n = length (did d [] (made r)) + n ≤ sum_by (lines_of d) s.phases
