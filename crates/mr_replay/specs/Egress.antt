-- The egress files that a run writes into its store, behind the text of its history.
use Rattle.std.specs.Prelude.{◌≡◌, ◌≢◌, ◌⊎◌, ℕ, Bool, true, false, if◌then◌else◌, Option, Some, None, List, [], ◌∷◌, ◌++◌, bytes_eq, codes, length, map}
use Rattle.mr_base.specs.Outside.{AllStay, Files, LastCall, Takes, TakesPrefix}
use Rattle.mr_base.specs.declared.store_call.StoreCall.{StoreCall}
use Rattle.mr_egress.specs.Files.{file}
use Rattle.mr_load.specs.Callers.{one_to}
use Rattle.mr_load.specs.Dues.{LaneValue, lane_of}
use Rattle.mr_load.specs.Faults.{cuts, fails}
use Rattle.mr_kernel.specs.Values.{KernelValue}
use Rattle.mr_load.specs.Loading.{run_limits}
use Rattle.mr_load.specs.declared.loading.Loaded.{Loaded}
use Rattle.mr_load.specs.declared.status.Status.{Status}
use Rattle.mr_load.specs.declared.status.Status.TheVariants as status
use Rattle.mr_model.specs.declared.entry.Entry.{Entry}
use Rattle.mr_model.specs.declared.limits.Limits.{Limits}
use Rattle.mr_model.specs.Ending.{ending}
use Rattle.mr_tail.specs.Text.{name_at, tail_of}
use Rattle.mr_text.specs.Text.{text}
use Rattle.mr_scenario.specs.declared.scenario.Named.{Named}
use Rattle.mr_scenario.specs.declared.scenario.Scenario.{Scenario}

-- a file that a run writes
pub record EgressFile : Type 0 where
  pub name : List ℕ
  pub bytes : List ℕ

-- `out-NAME.pcap`, of the device of this name
abbrev pub egress_name : List ℕ → List ℕ
egress_name device = codes "out-" ++ device ++ codes ".pcap"

-- the egress trace of device n over a history, under the device's name
abbrev pub egress_file : Limits → List LaneValue → List Named → List Entry → ℕ → EgressFile
egress_file limits lanes devices h n = record { name = egress_name (name_at devices n); bytes = file limits lanes h n }

-- those of all devices, in their order
abbrev pub egress_of : Limits → List LaneValue → List Named → List Entry → List EgressFile
egress_of limits lanes devices h = map (egress_file limits lanes devices h) (one_to (length devices))

-- The egress files of a scenario over a history of it.
abbrev pub egress_files : Files → Scenario → List Entry → List EgressFile
egress_files files s h = egress_of (run_limits files s) (map (lane_of files s) (one_to s.lanes)) s.devices h

-- one file more, or in place of the one of its name
abbrev pub with_file : EgressFile → Files → Files
with_file f files name = if bytes_eq name f.name then Some f.bytes else files name

-- files with these written, one after another
abbrev pub with_files : List EgressFile → Files → Files
with_files [] files = files
with_files (f ∷ fs) files = with_files fs (with_file f files)

-- These were written into a store, and no other file has changed.
abbrev pub Stores : List EgressFile → Option Files → Option Files → Type 0
Stores fs (Some old) (Some new) = (name : List ℕ) → new name ≡ with_files fs old name
Stores fs None None = Unit {0}
Stores fs _ _ = ⊥

-- The same, but the file of one name may be anything.
abbrev pub StoresBut : List ℕ → List EgressFile → Option Files → Option Files → Type 0
StoresBut loose fs (Some old) (Some new) = (name : List ℕ) → name ≢ loose → new name ≡ with_files fs old name
StoresBut loose fs None None = Unit {0}
StoresBut loose fs _ _ = ⊥

-- The first of these files were written, and nothing else.
pub record StoresFirst (fs : List EgressFile) (old new : Option Files) : Type 0 where
  pub written : List EgressFile
  pub left : List EgressFile
  pub order : fs ≡ written ++ left
  pub stored : Stores written old new

-- The files before the one of this name were written. Its own write failed, and it may be anything; those behind it were not
-- touched.
pub record StopsAt (name : List ℕ) (fs : List EgressFile) (old new : Option Files) : Type 0 where
  pub written : List EgressFile
  pub bytes : List ℕ
  pub left : List EgressFile
  pub order : fs ≡ written ++ record { name = name; bytes = bytes } ∷ left
  pub stored : StoresBut name written old new

-- what the writing of files comes to, by its status
abbrev pub Writes : List EgressFile → Status → Option Files → Option Files → Type 0
Writes fs status.Good old new = Stores fs old new
Writes fs status.Memory old new = StoresFirst fs old new
Writes fs (status.StoreFault name) old new = StopsAt name fs old new
Writes fs s old new = ⊥

-- the write of a file, which failed or not
abbrev pub write_of : List ℕ → Bool → StoreCall
write_of name failed = record { is_read = false; name = name; failed = failed }

-- the write of this file that failed
abbrev pub failed_write : List ℕ → LastCall
failed_write name = write_of name true

-- the writes of these files, one after the other, of which the last failed or not
abbrev pub writes_of : List (List ℕ) → Bool → List StoreCall
writes_of [] failed = []
writes_of (name ∷ []) failed = write_of name failed ∷ []
writes_of (name ∷ next ∷ names) failed = write_of name false ∷ writes_of (next ∷ names) failed

-- A store's calls grew by writes of these files, each once and in their order: of all of them, or where the writing was cut
-- short, of the first of them. The last write failed or not.
pub record HasWritten (names : List (List ℕ)) (cut failed : Bool) (old new : List StoreCall) : Type 0 where
  pub written : List (List ℕ)
  pub left : List (List ℕ)
  pub order : names ≡ written ++ left
  pub all : cut ≡ false → left ≡ []
  pub calls : new ≡ old ++ writes_of written failed

abbrev pub names_of : List EgressFile → List (List ℕ)
names_of fs = map (λ f. f.name) fs

-- the names of a scenario's egress files, in the order of its devices
abbrev pub egress_names : Scenario → List (List ℕ)
egress_names s = map (λ n. egress_name (name_at s.devices n)) (one_to (length s.devices))

-- the calls of a file's write that came to this status
abbrev pub calls_by : Status → List ℕ → List StoreCall
calls_by status.Good name = write_of name false ∷ []
calls_by (status.StoreFault file) name = write_of name true ∷ []
calls_by s name = []

-- What the writing of files comes to: the store's files, and its calls.
pub record WritesTo (fs : List EgressFile) (s : Status) (told now : Option Files) (old new : List StoreCall) : Type 0 where
  pub files : Writes fs s told now
  pub calls : HasWritten (names_of fs) (cuts s) (fails s) old new

-- the calls of files' writes, which are not begun where the text's sink failed
abbrev pub Writing : List (List ℕ) → Status → List StoreCall → List StoreCall → Type 0
Writing names status.SinkFault old new = new ≡ old
Writing names s old new = HasWritten names (cuts s) (fails s) old new

-- The text and the files of a history are written, as far as the status says.
abbrev pub WritesRun : Status → Option (List ℕ) → Option (List ℕ) → Option Files → Option Files → List ℕ → List EgressFile → Type 0
WritesRun status.SinkFault taken now told after text egress = TakesPrefix taken text now × AllStay told after
WritesRun s taken now told after text egress = Takes taken text now × Writes egress s told after

-- Memory ran out before anything was written, or it is written as far as the status says.
abbrev pub Wrote : Status → Type 0 → Option (List ℕ) → Option (List ℕ) → Option Files → Option Files → List ℕ → List EgressFile → Type 0
Wrote s Nothing taken now told after text egress = ((s ≡ status.Memory) × Nothing) ⊎ WritesRun s taken now told after text egress

-- the statuses of a run whose text and files are written
abbrev pub IsOutput : Status → Type 0
IsOutput status.Good = Unit {0}
IsOutput status.Memory = Unit {0}
IsOutput (status.StoreFault name) = Unit {0}
IsOutput status.SinkFault = Unit {0}
IsOutput s = ⊥

-- the text of a machine's history, by what was loaded
abbrev pub text_by : Loaded → KernelValue → List ℕ
text_by l k = text l.skips k.history (tail_of l.scenario.devices (ending k.limits k.history))

-- its egress files
abbrev pub egress_by : Loaded → KernelValue → List EgressFile
egress_by l k = egress_of k.limits l.lanes l.scenario.devices k.history
