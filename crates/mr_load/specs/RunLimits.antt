-- The limits that a loaded scenario gives its run.
use Rattle.std.specs.Prelude.{◌≡◌, ◌≤◌, length, sum}
use Rattle.mr_base.specs.Outside.{Files}
use Rattle.mr_base.specs.declared.limits.TheConstants.{MOST_ENTRIES, MOST_UNRESOLVED, MOST_CONTROLS, MOST_PHASES, MOST_LANES, MOST_ITEMS, MOST_DAEMONS, MOST_DEVICES}
use Rattle.mr_load.specs.Loads.{IsLoaded}
use Rattle.mr_load.specs.declared.loading.Loaded.{Loaded}
use Rattle.mr_model.specs.declared.limits.Limits.{Limits}

-- They are within what a scenario may allow; all lanes together have no more packets than it may have items.
pub record AreWithin (l : Limits) : Type 0 where
  pub some_entries : 1 ≤ l.entries
  pub entries : l.entries ≤ MOST_ENTRIES
  pub some_unresolved : 1 ≤ l.unresolved
  pub unresolved : l.unresolved ≤ MOST_UNRESOLVED
  pub some_controls : 1 ≤ l.controls
  pub controls : l.controls ≤ MOST_CONTROLS
  pub phases : l.phases ≤ MOST_PHASES
  pub lanes : length l.packets ≤ MOST_LANES
  pub packets : sum l.packets ≤ MOST_ITEMS
  pub daemons : length l.admins ≤ MOST_DAEMONS
  pub devices : length l.devices ≤ MOST_DEVICES

abbrev pub LimitsWithin : Type 0
LimitsWithin = (files : Files) (l : Loaded) → IsLoaded files l → AreWithin l.limits

-- a lane for each of the scenario, and as many of each kind
pub record AreOf (l : Loaded) : Type 0 where
  pub lanes : length l.limits.packets ≡ l.scenario.lanes
  pub daemons : length l.limits.admins ≡ length l.scenario.daemons
  pub devices : length l.limits.devices ≡ length l.scenario.devices
  pub phases : l.limits.phases ≡ length l.scenario.phases

abbrev pub LimitsAreOf : Type 0
LimitsAreOf = (files : Files) (l : Loaded) → IsLoaded files l → AreOf l
