-- The limits for which a journal can be made.
use Rattle.std.specs.Prelude.{◌≤◌, length, sum}
use Rattle.mr_model.specs.declared.limits.Limits.{Limits}
use Rattle.mr_history.specs.declared.most.TheConstants.{MOST_ENTRIES, MOST_UNRESOLVED}
use Rattle.mr_history.specs.declared.most.TheConstants.{MOST_CONTROLS, MOST_PHASES, MOST_PACKETS}
use Rattle.mr_history.specs.declared.most.TheConstants.{MOST_LANES, MOST_DAEMONS, MOST_DEVICES}

pub record FitsLimits (limits : Limits) : Type 0 where
  pub some_entries : 1 ≤ limits.entries
  pub entries : limits.entries ≤ MOST_ENTRIES
  pub some_unresolved : 1 ≤ limits.unresolved
  pub unresolved : limits.unresolved ≤ MOST_UNRESOLVED
  pub some_controls : 1 ≤ limits.controls
  pub controls : limits.controls ≤ MOST_CONTROLS
  pub phases : limits.phases ≤ MOST_PHASES
  pub lanes : length limits.packets ≤ MOST_LANES
  pub packets : sum limits.packets ≤ MOST_PACKETS
  pub daemons : length limits.admins ≤ MOST_DAEMONS
  pub devices : length limits.devices ≤ MOST_DEVICES
