-- The files that are kept while a scenario is loaded.
use Rattle.std.specs.Prelude.{◌≡◌, ℕ, zero, suc, Bool, true, false, Option, Some, None, Result, Ok, Err, List, [], ◌∷◌, bytes_eq}
use Rattle.std.specs.Map.{lookup}
use Rattle.indexmap.specs.IndexMap.{insert_entry}
use Rattle.mr_base.specs.Outside.{Files, HasFile}
use Rattle.mr_load.specs.Items.{Content, contents_in}
use Rattle.mr_pcap.specs.Traces.{Capture}
use Rattle.mr_pcap.specs.declared.pcap_error.PcapError.{PcapError}
use Rattle.mr_scenario.specs.declared.scenario.Given.{Given}
use Rattle.mr_scenario.specs.declared.scenario.Given.TheVariants.{Bytes, Trace}

-- traces by the names of their files
abbrev pub Kept : Type 0
Kept = List (List ℕ × Capture)

abbrev pub contents_found : Option Capture → List Content
contents_found None = []
contents_found (Some c) = contents_in c

-- what the items of a line bring, by the traces that are kept
abbrev pub contents_kept : Kept → Given → List Content
contents_kept kept (Bytes bs) = Some bs ∷ []
contents_kept kept (Trace file) = contents_found (lookup (bytes_eq file) kept)

-- with a file's trace, where lines name it as one
abbrev pub traces_with : ℕ → Kept → List ℕ → Result Capture PcapError → Kept
traces_with zero kept name r = kept
traces_with (suc k) kept name (Ok c) = insert_entry bytes_eq kept name c
traces_with (suc k) kept name (Err e) = kept

-- the bytes of configurations by the names of their files
abbrev pub KeptBytes : Type 0
KeptBytes = List (List ℕ × List ℕ)

-- with a file's bytes, where a daemon names it as a configuration
abbrev pub confs_with : Bool → KeptBytes → List ℕ → List ℕ → KeptBytes
confs_with true kept name bytes = insert_entry bytes_eq kept name bytes
confs_with false kept name bytes = kept

-- the kept files alone
abbrev pub files_kept : KeptBytes → Files
files_kept kept name = lookup (bytes_eq name) kept

-- The bytes are the scenario's own, where that is named, and else those of the store's file.
abbrev pub AreBytesOf : Bool → Option Files → List ℕ → List ℕ → List ℕ → Type 0
AreBytesOf true told own name bytes = bytes ≡ own
AreBytesOf false told own name bytes = HasFile told name bytes
