-- How a run may end, and what each status says.
use Rattle.std.specs.Prelude.{◌≡◌, ◌⊎◌, ◌≤◌, ◌<◌, ℕ, Bool, true, false, Option, Some, Result, Ok, Err, Contains, List, sum}
use Rattle.mr_base.specs.Outside.{Files}
use Rattle.mr_command.specs.Commands.{Asked, Gen, Replay}
use Rattle.mr_model.specs.declared.entry.Entry.{Entry}
use Rattle.mr_model.specs.Legal.{IsLegal}
use Rattle.mr_scenario.specs.declared.scenario.Scenario.{Scenario}
use Rattle.mr_load.specs.declared.status.Status.{Status}
use Rattle.mr_load.specs.declared.status.Status.TheVariants as status
use Rattle.mr_load.specs.declared.status.TraceCause.{TraceCause}
use Rattle.mr_scenario.specs.declared.stop.Kind.{Kind}
use Rattle.mr_scenario.specs.Spelled.{spelled}
use Rattle.mr_replay.specs.Egress.{EgressFile, HasWritten, egress_files, egress_names}
use Rattle.smc_conf.specs.declared.stop.Kind.{Kind as ConfKind}
use Rattle.smc_daemon.specs.Room.{least, most}
use Rattle.mr_base.specs.declared.store_call.StoreCall.{StoreCall}
use Rattle.mr_load.specs.Faults.{HasRead, cuts, fails}
use Rattle.mr_load.specs.Refusals.{loaded}
use Rattle.mr_load.specs.Loading.{run_limits}
use Rattle.mr_load.specs.Made.{Made}
use Rattle.mr_load.specs.Refusals.{files_read}
use Rattle.mr_load.specs.Told.{IsTold}
use Rattle.mr_tail.specs.Text.{history_text}

-- The words are `replay SCENARIO`: so for its file.
abbrev pub IfReplay : Option Asked → (List ℕ → Type 0) → Type 0
IfReplay (Some (Replay file)) P = P file
IfReplay _ P = Unit {0}

-- The words are no form of a command that is run.
abbrev pub is_usage : Option Asked → Bool
is_usage (Some (Replay file)) = false
is_usage (Some (Gen seed lanes packets)) = false
is_usage _ = true

-- The bytes of the file spell a scenario whose files are accepted, and the least that its daemons make has room. The history is a
-- legal one of it, and has what the scenario asks.
pub record RunsTo (files : Files) (file : List ℕ) (scenario : Scenario) (history : List Entry) : Type 0 where
  pub bytes : List ℕ
  pub stored : files file ≡ Some bytes
  pub spells : spelled bytes ≡ Ok scenario
  pub accepted : loaded files file ≡ Ok scenario
  pub room : least files scenario ≤ scenario.limits.controls
  pub legal : IsLegal (run_limits files scenario) history
  pub made : Made files scenario history

-- The file runs to one history, and so much is written of its text and of its egress files.
pub record Replays (file : List ℕ) (told : Option Files) (IsWritten : List ℕ → List EgressFile → Type 0) : Type 0 where
  pub files : Files
  pub scenario : Scenario
  pub history : List Entry
  pub told_is : IsTold told files
  pub run : RunsTo files file scenario history
  pub written : IsWritten (history_text files scenario history) (egress_files files scenario history)

-- The file comes to this status.
pub record ComesTo (file : List ℕ) (told : Option Files) (s : Status) : Type 0 where
  pub files : Files
  pub told_is : IsTold told files
  pub outcome : loaded files file ≡ Err s

-- How many packets a scenario has in all its lanes.
abbrev pub packets_in : Files → Scenario → ℕ
packets_in files s = sum (run_limits files s).packets

-- The file spells a scenario whose daemons make more control entries at most than it allows.
pub record IsFull (file : List ℕ) (told : Option Files) : Type 0 where
  pub files : Files
  pub scenario : Scenario
  pub told_is : IsTold told files
  pub accepted : loaded files file ≡ Ok scenario
  pub short : scenario.limits.controls < most files scenario (packets_in files scenario)

-- A file of this name is one that is to be read for the scenario's file.
pub record IsToRead (file : List ℕ) (told : Option Files) (name : List ℕ) : Type 0 where
  pub files : Files
  pub told_is : IsTold told files
  pub read : Contains (files_read files file) name

-- the statuses with which nothing is ever written
abbrev pub is_silent : Status → Bool
is_silent status.Good = false
is_silent (status.StoreFault name) = false
is_silent status.SinkFault = false
is_silent status.Memory = false
is_silent _ = true

-- the statuses with which no file is ever written
abbrev pub keeps_files : Status → Bool
keeps_files status.SinkFault = true
keeps_files s = is_silent s

-- The store's calls are the reads of the scenario and of the traces that it names, each once and in their order: all of them, or, where a
-- read failed or memory ran out, the first of them. The last read failed exactly with StoreFault.
pub record ReadsFor (told : Option Files) (file : List ℕ) (s : Status) (old new : List StoreCall) : Type 0 where
  pub files : Files
  pub told_is : IsTold told files
  pub reads : HasRead (files_read files file) (cuts s) (fails s) old new

-- The store's calls are all those reads, and then the writes of the egress files, each once and in the order of the devices: all of
-- them, or, where a write failed or memory ran out, the first of them. The last write failed exactly with StoreFault.
pub record ReadsAndWrites (told : Option Files) (file : List ℕ) (s : Status) (old new : List StoreCall) : Type 0 where
  pub files : Files
  pub told_is : IsTold told files
  pub scenario : Scenario
  pub scenario_is : loaded files file ≡ Ok scenario
  pub between : List StoreCall
  pub reads : HasRead (files_read files file) false false old between
  pub writes : HasWritten (egress_names scenario) (cuts s) (fails s) between new

-- The store's calls, by the status: where memory ran out or a call failed, it was while reading or while writing.
abbrev pub CallsFor : Option Files → List ℕ → Status → List StoreCall → List StoreCall → Type 0
CallsFor told file status.Good old new = ReadsAndWrites told file status.Good old new
CallsFor told file status.Memory old new = ReadsFor told file status.Memory old new ⊎ ReadsAndWrites told file status.Memory old new
CallsFor told file (status.StoreFault name) old new =
    ReadsFor told file (status.StoreFault name) old new ⊎ ReadsAndWrites told file (status.StoreFault name) old new
CallsFor told file s old new = ReadsFor told file s old new

-- a fact for each status
abbrev pub IfScenario : Status → (ℕ → Kind → List ℕ → Type 0) → Type 0
IfScenario (status.Scenario line k text) P = P line k text
IfScenario _ P = Unit {0}

abbrev pub IfTrace : Status → (List ℕ → TraceCause → Type 0) → Type 0
IfTrace (status.Trace file cause) P = P file cause
IfTrace _ P = Unit {0}

abbrev pub IfConf : Status → (List ℕ → ℕ → ConfKind → List ℕ → Type 0) → Type 0
IfConf (status.Conf file line k text) P = P file line k text
IfConf _ P = Unit {0}

abbrev pub IfStoreFault : Status → (List ℕ → Type 0) → Type 0
IfStoreFault (status.StoreFault file) P = P file
IfStoreFault _ P = Unit {0}

-- the file spells a scenario of which this is true
abbrev pub IfLoaded : Result Scenario Status → (Scenario → Type 0) → Type 0
IfLoaded (Ok s) P = P s
IfLoaded (Err s) P = ⊥

-- Where no call of the outside failed, a run ends by what its file comes to: Good where that is a scenario whose daemons have room
-- for the least that they make, ControlFull where it has none for the most; else by the status. Memory may run out.
abbrev pub EndsBy : Files → Status → Result Scenario Status → Type 0
EndsBy files status.Good outcome = IfLoaded outcome (λ s. least files s ≤ s.limits.controls)
EndsBy files status.ControlFull outcome = IfLoaded outcome (λ s. s.limits.controls < most files s (packets_in files s))
EndsBy files status.Memory outcome = Unit {0}
EndsBy files status.Usage outcome = ⊥
EndsBy files (status.StoreFault file) outcome = ⊥
EndsBy files status.SinkFault outcome = ⊥
EndsBy files s outcome = outcome ≡ Err s
