-- How far the files of a scenario are read.
use Rattle.std.specs.Prelude.{◌≡◌, ◌≤◌, ℕ, Bool, true, false, Option, Some, Result, Ok, Err, List, [], ◌∷◌, ◌++◌, drop, is_some, map, bytes_eq, nat_lt, IfSome, take}
use Rattle.std.specs.List.{AllByRecursion}
use Rattle.std.specs.Map.{lookup}
use Rattle.mr_base.specs.Outside.{AllStay, Files, LastCall, Rose}
use Rattle.mr_base.specs.declared.store_call.StoreCall.{StoreCall}
use Rattle.mr_load.specs.Faults.{failed_read, fails, is_fault, read_of, reads_of}
use Rattle.mr_load.specs.Items.{contents_in, contents_of}
use Rattle.mr_load.specs.Kept.{AreBytesOf, confs_with, traces_with}
use Rattle.mr_load.specs.Loads.{IfFault}
use Rattle.mr_load.specs.Naming.{Naming}
use Rattle.mr_load.specs.Refusals.{after_bytes, after_files, but, further_read}
use Rattle.mr_load.specs.declared.reading.Reading.{Reading}
use Rattle.mr_load.specs.declared.status.Status.{Status}
use Rattle.mr_load.specs.declared.status.Status.TheVariants as status
use Rattle.mr_load.specs.declared.totals.Totals.{Totals}
use Rattle.mr_pcap.specs.Traces.{Capture, capture_of}
use Rattle.mr_scenario.specs.declared.scenario.Given.TheVariants.{Trace}

-- What the calls of a store leave: a fault is its last call, a failed read, and its count rose; else the count stands. No file changes.
pub record Asks {A : Type 0} (r : Result A Status) (last : LastCall) (before after : ℕ) (told now : Option Files) : Type 0 where
  pub last_is : IfFault r (λ name. last ≡ failed_read name)
  pub rose : IfFault r (λ _. Rose before after)
  pub good : is_fault r ≡ false → after ≡ before
  pub files : AllStay told now
  pub count : before ≤ after

-- The file was not read: its read failed, or there was no memory.
abbrev pub IsUnread : Bool → List ℕ → Status → Type 0
IsUnread own name (status.StoreFault file) = (file ≡ name) × (own ≡ false)
IsUnread own name status.Memory = Unit {0}
IsUnread own name s = ⊥

-- the read of a file that is not the scenario itself
abbrev pub read_if : Bool → List ℕ → Bool → List StoreCall
read_if true name failed = []
read_if false name failed = read_of name failed ∷ []

-- A file was read, and is refused.
pub record IsRefused (told : Option Files) (file own : List ℕ) (t : Totals) (n : Naming) (s : Status) : Type 0 where
  pub bytes : List ℕ
  pub there : AreBytesOf (bytes_eq n.0 file) told own n.0 bytes
  pub refused : after_bytes t n bytes ≡ Err s

-- A file stops the reading.
abbrev pub IsStop : Option Files → List ℕ → List ℕ → Totals → Naming → Status → Type 0
IsStop told file own t n (status.StoreFault name) = (name ≡ n.0) × (bytes_eq n.0 file ≡ false)
IsStop told file own t n status.Memory = Unit {0}
IsStop told file own t n (status.Conf name line k text) = IsRefused told file own t n (status.Conf name line k text)
IsStop told file own t n (status.Trace name cause) = IsRefused told file own t n (status.Trace name cause)
IsStop told file own t n s = ⊥

abbrev pub names_in : List Naming → List (List ℕ)
names_in ns = map (λ n. n.0) ns

-- files with their bytes
abbrev pub AllThere : Files → List (List ℕ × List ℕ) → Type 0
AllThere files has = AllByRecursion (λ h. files h.0 ≡ Some h.1) has

-- The trace is that of its file.
abbrev pub IsKept : Files → List ℕ × Capture → Type 0
IsKept files e = contents_of files (Trace e.0) ≡ contents_in e.1

-- What a file is named as is kept.
pub record IsFound (r : Reading) (n : Naming) : Type 0 where
  pub conf : n.1.conf ≡ true → is_some (lookup (bytes_eq n.0) r.confs.entries) ≡ true
  pub trace : nat_lt 0 n.1.lines ≡ true → is_some (lookup (bytes_eq n.0) r.traces.entries) ≡ true

-- What is true where these are the files and the first i of those named were read.
pub record Facts (files : Files) (first : Totals) (ns : List Naming) (i : ℕ) (r : Reading) : Type 0 where
  pub outcome : after_files files first ns ≡ after_files files r.totals (drop i ns)
  pub read : further_read files first ns ≡ names_in (take i ns) ++ further_read files r.totals (drop i ns)
  pub confs : AllThere files r.confs.entries
  pub traces : AllByRecursion (IsKept files) r.traces.entries

-- The first i of the files were read.
pub record Progress (told : Option Files) (file own : List ℕ) (first : Totals) (ns : List Naming) (i : ℕ) (r : Reading) (old now : List StoreCall) : Type 0 where
  pub has : List (List ℕ × List ℕ)
  pub told_has : IfSome told (λ files. AllThere files has)
  pub names : map (λ h. h.0) has ≡ but file (names_in (take i ns))
  pub facts : (files : Files) → files file ≡ Some own → AllThere files has → Facts files first ns i r
  pub found : AllByRecursion (IsFound r) (take i ns)
  pub calls : (before : List StoreCall) → old ≡ before ++ read_of file false ∷ [] → now ≡ before ++ reads_of (file ∷ but file (names_in (take i ns))) false

-- All files were read.
pub record ReadsAll (told : Option Files) (file own : List ℕ) (first : Totals) (ns : List Naming) (r : Reading) (old new : List StoreCall) : Type 0 where
  pub i : ℕ
  pub progress : Progress told file own first ns i r old new
  pub none_left : drop i ns ≡ []

-- The reading stopped at a file.
pub record Stops (told : Option Files) (file own : List ℕ) (first : Totals) (ns : List Naming) (s : Status) (old new : List StoreCall) : Type 0 where
  pub i : ℕ
  pub r : Reading
  pub now : List StoreCall
  pub n : Naming
  pub left : List Naming
  pub progress : Progress told file own first ns i r old now
  pub at : drop i ns ≡ n ∷ left
  pub stop : IsStop told file own r.totals n s
  pub calls : new ≡ now ++ read_if (bytes_eq n.0 file) n.0 (fails s)

-- One file more was read and is kept as what it is named as.
pub record HasPut (told : Option Files) (file own : List ℕ) (n : Naming) (old new : Reading) : Type 0 where
  pub bytes : List ℕ
  pub there : AreBytesOf (bytes_eq n.0 file) told own n.0 bytes
  pub after : after_bytes old.totals n bytes ≡ Ok new.totals
  pub confs : new.confs.entries ≡ confs_with n.1.conf old.confs.entries n.0 bytes
  pub traces : new.traces.entries ≡ traces_with n.1.lines old.traces.entries n.0 (capture_of bytes)
