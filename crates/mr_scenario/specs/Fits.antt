-- What a scenario that was read keeps: it fits its own limits, and those of the machine.
use Rattle.std.specs.Prelude.{◌≡◌, ◌≤◌, ℕ, true, false, List, length, map, replicate, sum_by}
use Rattle.std.specs.List.{AllByRecursion}
use Rattle.mr_scenario.specs.PhaseLines.{is_smc_at}
use Rattle.mr_scenario.specs.Spelled.{is_admin_kind, address_only}
use Rattle.mr_scenario.specs.declared.scenario.DaemonKind.{DaemonKind}
use Rattle.mr_scenario.specs.declared.scenario.DaemonKind.TheVariants.{Plain, Admin, Smc}
use Rattle.mr_scenario.specs.declared.scenario.Given.{Given}
use Rattle.mr_scenario.specs.declared.scenario.Given.TheVariants.{Bytes, Trace}
use Rattle.mr_scenario.specs.declared.scenario.Item.{Item}
use Rattle.mr_scenario.specs.declared.scenario.Named.{Named}
use Rattle.mr_scenario.specs.declared.scenario.Phase.{Phase}
use Rattle.mr_scenario.specs.declared.scenario.Scenario.{Scenario}
use Rattle.mr_scenario.specs.declared.scenario.Script.{Script}
use Rattle.mr_scenario.specs.declared.scenario.Script.TheVariants.{Words, Start, Poll}
use Rattle.mr_scenario.specs.declared.scenario.ScriptLine.{ScriptLine}
use Rattle.mr_words.specs.Names.{is_device_name, is_file}

-- A file is named by a word for files.
abbrev pub IsFileGiven : Given → Type 0
IsFileGiven (Bytes bs) = Unit {0}
IsFileGiven (Trace file) = is_file file ≡ true

-- an item of one of so many lanes, on one of so many devices
pub record IsItem (lanes devices : ℕ) (i : Item) : Type 0 where
  pub least_lane : 1 ≤ i.lane.0
  pub most_lane : i.lane.0 ≤ lanes
  pub least_device : 1 ≤ i.dev
  pub most_device : i.dev ≤ devices
  pub file : IsFileGiven i.given

-- A configuration is named by a word for files.
abbrev pub IsDriven : DaemonKind → Type 0
IsDriven (Smc files) = AllByRecursion (λ file. is_file file ≡ true) files
IsDriven Plain = Unit {0}
IsDriven Admin = Unit {0}

-- a line of one of so many daemons
pub record IsAsked (daemons : ℕ) (l : ScriptLine) : Type 0 where
  pub least : 1 ≤ l.daemon.0
  pub most : l.daemon.0 ≤ daemons

-- a line that asks nothing of a routing machine
abbrev pub NeedsNoMachine : Script → Type 0
NeedsNoMachine Start = ⊥
NeedsNoMachine (Poll n) = ⊥
NeedsNoMachine (Words text) = ⊥
NeedsNoMachine _ = Unit {0}

-- A line that asks something of a routing machine is of a daemon that has one.
abbrev pub SuitsDaemon : List DaemonKind → ScriptLine → Type 0
SuitsDaemon daemons l = is_smc_at daemons l.daemon.0 ≡ false → NeedsNoMachine l.script

-- A device has a name of 1 to 15 bytes.
abbrev pub IsNamed : Named → Type 0
IsNamed d = is_device_name d.name ≡ true

-- 1 for a packet's bytes; a trace counts once it is read
abbrev pub packets_in : Given → ℕ
packets_in (Bytes bs) = 1
packets_in (Trace file) = 0

abbrev pub packets_of : List Phase → ℕ
packets_of ps = sum_by (λ p. sum_by (λ i. packets_in i.given) p.items) ps

pub record Fits (s : Scenario) : Type 0 where
  pub least_entries : 1 ≤ s.limits.entries
  pub most_entries : s.limits.entries ≤ 16384
  pub least_unresolved : 1 ≤ s.limits.unresolved
  pub most_unresolved : s.limits.unresolved ≤ 64
  pub least_controls : 1 ≤ s.limits.controls
  pub most_controls : s.limits.controls ≤ 1048576
  pub phases : s.limits.phases ≡ length s.phases
  pub most_phases : length s.phases ≤ 1000
  pub lanes : s.limits.packets ≡ replicate s.lanes 0
  pub most_lanes : s.lanes ≤ 16
  pub admins : s.limits.admins ≡ map is_admin_kind s.daemons
  pub most_daemons : length s.daemons ≤ 8
  pub confs : AllByRecursion IsDriven s.daemons
  pub devices : s.limits.devices ≡ map address_only s.devices
  pub most_devices : length s.devices ≤ 64
  pub names : AllByRecursion IsNamed s.devices
  pub items : AllByRecursion (λ p. AllByRecursion (IsItem s.lanes (length s.devices)) p.items) s.phases
  pub script : AllByRecursion (λ p. AllByRecursion (IsAsked (length s.daemons)) p.script) s.phases
  pub machine_lines : AllByRecursion (λ p. AllByRecursion (SuitsDaemon s.daemons) p.script) s.phases
  pub most_packets : packets_of s.phases ≤ 1048576
