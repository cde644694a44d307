-- What a run asks of what was loaded, and how far it has come.
use Rattle.std.specs.Prelude.{◌≡◌, ℕ, ◌+◌, ◌≤◌, ◌<◌, false, Option, Some, None, List, [], ◌∷◌, ◌++◌, get_or, length, slice_get, sum, take}
use Rattle.std.specs.List.{AllByRecursion, list_any}
use Rattle.mr_base.specs.Outside.{Files}
use Rattle.mr_callers.specs.Joining.{MadeSoFar}
use Rattle.mr_history.specs.Fits.{FitsLimits}
use Rattle.mr_load.specs.Callers.{has_machine, kind_of}
use Rattle.mr_load.specs.Loads.{IsLoaded}
use Rattle.mr_load.specs.Made.{asked}
use Rattle.mr_load.specs.declared.loading.Loaded.{Loaded}
use Rattle.mr_model.specs.Deeds.{Deed}
use Rattle.mr_model.specs.declared.entry.Entry.{Entry}
use Rattle.mr_model.specs.declared.entry.Entry.TheVariants.{EndPhase}
use Rattle.mr_model.specs.Legal.{IsLegal}
use Rattle.mr_model.specs.Past.{controls, is_end, phases}
use Rattle.mr_replay.specs.Daemons.{AreDaemons, IsPlain, lines_by}
use Rattle.mr_replay.specs.Lanes.{AreLanes, LanesFit, LanesReady}
use Rattle.mr_replay.specs.Turns.{IsIdle}
use Rattle.mr_router.specs.Callers.{DaemonValue}
use Rattle.mr_router.specs.Callers as router
use Rattle.mr_scenario.specs.declared.scenario.DaemonKind.{DaemonKind}
use Rattle.mr_scenario.specs.declared.scenario.DaemonKind.TheVariants.{Plain, Admin, Smc}
use Rattle.mr_scenario.specs.declared.scenario.Phase.{Phase}
use Rattle.mr_scenario.specs.declared.scenario.Scenario.{Scenario}
use Rattle.mr_scenario.specs.declared.scenario.ScriptLine.{ScriptLine}
use Rattle.mr_scenario.specs.Fits.{Fits}
use Rattle.smc_core.specs.Machine.{Machine}
use Rattle.smc_daemon.specs.Courses.{Drives, IsBegun, machine_behind}
use Rattle.smc_daemon.specs.Deeds.{did}
use Rattle.smc_daemon.specs.Lines.{lines_in}
use Rattle.smc_daemon.specs.Room.{most}

-- A line of a daemon without a machine is none for a machine.
abbrev pub LineSuits : Scenario → ScriptLine → Type 0
LineSuits s l = has_machine s l.daemon.0 ≡ false → IsPlain l.script

-- What was loaded has limits that fit it.
pub record CanRun (l : Loaded) : Type 0 where
  pub fits : Fits l.scenario
  pub limits : FitsLimits l.limits
  pub lines : AllByRecursion (λ p. AllByRecursion (LineSuits l.scenario) p.script) l.scenario.phases
  pub phases : l.limits.phases ≡ length l.scenario.phases
  pub lanes : LanesFit l.limits l.lanes
  pub many_lanes : length l.lanes ≡ l.scenario.lanes
  pub given_lanes : length l.limits.packets ≡ l.scenario.lanes
  pub given_daemons : length l.limits.admins ≡ length l.scenario.daemons

-- a daemon of this sort has this machine, which waits for no reply, or none
abbrev pub IsFor : Option DaemonKind → Option Machine → Type 0
IsFor (Some (Smc names)) (Some m) = IsIdle m
IsFor (Some Plain) None = Unit {0}
IsFor (Some Admin) None = Unit {0}
IsFor _ _ = ⊥

-- the machines of a scenario's daemons, each at its place
pub record MachinesFit (s : Scenario) (ms : List (Option Machine)) : Type 0 where
  pub many : length ms ≡ length s.daemons
  pub each : (i : ℕ) → i < length s.daemons → IsFor (kind_of s (i + 1)) (get_or ms i None)

-- what was loaded, with these machines in their places
abbrev pub with_machines : Loaded → List (Option Machine) → Loaded
with_machines l ms = record l { machines = ms }

-- the phase at a place, from 0
abbrev pub IsPhaseAt : Scenario → ℕ → Phase → Type 0
IsPhaseAt s place p = slice_get s.phases place ≡ Some p

-- What holds for the first k phases is made, of all but the machines, and the router, the lanes and the daemons have seen the
-- history.
pub record HasRun (l : Loaded) (k : ℕ) (h : List Entry) (lanes_are : List router.LaneValue) (daemons_are : List DaemonValue) : Type 0 where
  pub lanes : AreLanes l.scenario.lanes h lanes_are
  pub daemons : AreDaemons (length l.scenario.daemons) h daemons_are
  pub ready : LanesReady k l.lanes h
  pub ended : phases h ≡ k
  pub made : (files : Files) (ms : List (Option Machine)) → IsLoaded files (with_machines l ms) → MadeSoFar files l.scenario (take k l.scenario.phases) h

-- In a phase each machine went on by its lines.
pub record PhaseDriven (k : ℕ) (s : Scenario) (h new : List Entry) (ms ms' : List (Option Machine)) : Type 0 where
  pub phase : Phase
  pub is_phase : IsPhaseAt s k phase
  pub part : List Entry
  pub no_end : list_any is_end part ≡ false
  pub is : new ≡ h ++ part ++ EndPhase ∷ []
  pub drives : (i : ℕ) (m : Machine) → i < length ms → get_or ms i None ≡ Some m → Drives (i + 1) m phase h part
  pub machines : (i : ℕ) (m : Machine) → i < length ms → get_or ms i None ≡ Some m → get_or ms' i None ≡ Some (machine_behind (i + 1) m phase h part)

-- Daemon d, with this machine or none, lacks so many entries in a phase, of which it did what stands in a part.
abbrev pub LacksIn : ℕ → Phase → List Entry → List Entry → Option Machine → ℕ → Type 0
LacksIn d p h part None n = length (asked d part) + n ≤ length (lines_by d p.script)
LacksIn d p h part (Some m) n =
    (missing : List Deed) × IsBegun m (lines_in d p) (did d h part) missing × (n ≤ length missing)

-- The phase was cut short: the history has no room for one entry that some daemon lacks.
pub record PhaseCut (l : Loaded) (k : ℕ) (h : List Entry) (ms : List (Option Machine)) : Type 0 where
  pub phase : Phase
  pub is_phase : IsPhaseAt l.scenario k phase
  pub part : List Entry
  pub no_end : list_any is_end part ≡ false
  pub legal : IsLegal l.limits (h ++ part)
  pub full : l.limits.controls ≤ controls (h ++ part)
  pub lacks : ℕ → ℕ
  pub each : (i : ℕ) → i < length l.scenario.daemons → LacksIn (i + 1) phase h part (get_or ms i None) (lacks (i + 1))
  pub which : ℕ
  pub which_is : which < length l.scenario.daemons
  pub one : 1 ≤ lacks (which + 1)

-- The limit on control entries is less than the most that the daemons of what was loaded make.
abbrev pub IsShort : Loaded → Type 0
IsShort l = (files : Files) → IsLoaded files l → l.scenario.limits.controls < most files l.scenario (sum l.limits.packets)
