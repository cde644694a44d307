-- What loading gives.
use Rattle.std.specs.Prelude.{◌≡◌, ◌≤◌, ℕ, Option, Result, Ok, Err, List, map, Contains}
use Rattle.mr_base.specs.Outside.{Files}
use Rattle.mr_base.specs.declared.limits.TheConstants.{MOST_ITEMS}
use Rattle.mr_base.specs.declared.store_call.StoreCall.{StoreCall}
use Rattle.mr_load.specs.Callers.{one_to}
use Rattle.mr_load.specs.Dues.{lane_by, lane_of}
use Rattle.mr_load.specs.Faults.{HasRead, is_cut, is_fault}
use Rattle.mr_load.specs.Items.{Content, contents_of, all_items}
use Rattle.mr_load.specs.Loading.{items_in, limits_by, of_lanes, run_limits, skip_of, skip_dev, skips_of, skip_devs_of}
use Rattle.mr_load.specs.Refusals.{loaded, files_read}
use Rattle.mr_load.specs.Told.{IsTold}
use Rattle.mr_load.specs.declared.loading.Loaded.{Loaded}
use Rattle.mr_load.specs.Machines.{machines_in}
use Rattle.mr_load.specs.declared.status.Status.{Status}
use Rattle.mr_load.specs.declared.status.Status.TheVariants as status
use Rattle.mr_scenario.specs.Fits.{Fits}
use Rattle.mr_scenario.specs.declared.scenario.Given.{Given}

-- A scenario with what its items give and its machines, where its lines bring this and these are its configurations.
pub record IsGiven (contents : Given → List Content) (confs : Files) (l : Loaded) : Type 0 where
  pub limits : l.limits ≡ limits_by contents l.scenario
  pub lanes : l.lanes ≡ map (lane_by contents l.scenario) (one_to l.scenario.lanes)
  pub skips : l.skips ≡ of_lanes skip_of contents l.scenario
  pub skip_devs : l.skip_devs ≡ of_lanes skip_dev contents l.scenario
  pub machines : l.machines ≡ machines_in confs l.scenario

-- A scenario whose files were read, with what its items give, and a routing machine for each daemon that has one.
pub record IsLoaded (files : Files) (l : Loaded) : Type 0 where
  pub fits : Fits l.scenario
  pub items : all_items (contents_of files) (items_in l.scenario.phases) ≤ MOST_ITEMS
  pub limits : l.limits ≡ run_limits files l.scenario
  pub lanes : l.lanes ≡ map (lane_of files l.scenario) (one_to l.scenario.lanes)
  pub skips : l.skips ≡ skips_of files l.scenario
  pub skip_devs : l.skip_devs ≡ skip_devs_of files l.scenario
  pub machines : l.machines ≡ machines_in files l.scenario

-- What a function returned, seen by view, is this, or this status; memory may run out.
abbrev pub Gives : {A B : Type 0} → (A → B) → Result A Status → Result B Status → Type 0
Gives view (Ok x) value = value ≡ Ok (view x)
Gives view (Err status.Memory) value = Unit {0}
Gives view (Err s) value = value ≡ Err s

-- What the scenario of a file comes to over these files: what is loaded, or the status by which it is refused. A fault names a
-- file that was to be read; memory may run out. Loading refuses by no other status.
abbrev pub LoadsFrom : Files → List ℕ → Result Loaded Status → Type 0
LoadsFrom files file (Ok l) = (loaded files file ≡ Ok l.scenario) × IsLoaded files l
LoadsFrom files file (Err status.Memory) = Unit {0}
LoadsFrom files file (Err (status.StoreFault name)) = Contains (files_read files file) name
LoadsFrom files file (Err (status.Scenario line k text)) = loaded files file ≡ Err (status.Scenario line k text)
LoadsFrom files file (Err (status.Conf name line k text)) = loaded files file ≡ Err (status.Conf name line k text)
LoadsFrom files file (Err (status.Trace name cause)) = loaded files file ≡ Err (status.Trace name cause)
LoadsFrom files file (Err s) = ⊥

-- the same over the files of a store, whose calls are the reads
pub record LoadsTo (told : Option Files) (file : List ℕ) (r : Result Loaded Status) (old new : List StoreCall) : Type 0 where
  pub files : Files
  pub told_is : IsTold told files
  pub loads : LoadsFrom files file r
  pub reads : HasRead (files_read files file) (is_cut r) (is_fault r) old new

-- a fact of the file whose read failed
abbrev pub IfFault : {A : Type 0} → Result A Status → (List ℕ → Type 0) → Type 0
IfFault (Err (status.StoreFault name)) P = P name
IfFault r P = Unit {0}
