-- The scenario that a file spells, or the status by which it is refused.
use Rattle.std.specs.Prelude.{ℕ, zero, suc, ◌+◌, ◌*◌, ◌&&◌, true, false, nat_le, not, if◌then◌else◌, Bool, Option, Some, None, Result, Ok, Err, List, [], ◌∷◌, bytes_eq, filter, length}
use Rattle.mr_base.specs.Outside.{Files}
use Rattle.mr_base.specs.declared.limits.TheConstants.{MOST_ITEMS}
use Rattle.mr_load.specs.Naming.{Naming, named_in}
use Rattle.mr_load.specs.declared.status.Status.{Status}
use Rattle.mr_load.specs.declared.status.Status.TheVariants as status
use Rattle.mr_load.specs.declared.totals.TheConstants.{MOST_TRACE_BYTES}
use Rattle.mr_load.specs.declared.totals.Totals.{Totals}
use Rattle.mr_load.specs.declared.status.TraceCause.TheVariants as cause
use Rattle.mr_pcap.specs.Traces.{Capture, capture_of}
use Rattle.mr_pcap.specs.declared.pcap_error.PcapError.{PcapError}
use Rattle.mr_pcap.specs.declared.pcap_error.PcapError.TheVariants as pcap
use Rattle.mr_scenario.specs.Fits.{packets_of}
use Rattle.mr_scenario.specs.Spelled.{spelled}
use Rattle.mr_scenario.specs.declared.scenario.Scenario.{Scenario}
use Rattle.mr_scenario.specs.declared.stop.ScenarioError.{ScenarioError}
use Rattle.mr_scenario.specs.declared.stop.ScenarioError.TheVariants as error
use Rattle.mr_words.specs.Binds.{◌>>=◌}
use Rattle.smc_conf.specs.Spelled.{spelled as conf_spelled}
use Rattle.smc_conf.specs.declared.conf.Conf.{Conf}
use Rattle.smc_conf.specs.declared.stop.ConfError.{ConfError}
use Rattle.smc_conf.specs.declared.stop.ConfError.TheVariants as conf

-- a file that is not there is a fault
abbrev pub if_there : List ℕ → Option (List ℕ) → Result (List ℕ) Status
if_there file (Some bytes) = Ok bytes
if_there file None = Err (status.StoreFault file)

-- a bad line, by its kind
abbrev pub accepted : Result Scenario ScenarioError → Result Scenario Status
accepted (Ok s) = Ok s
accepted (Err (error.Bad line k text)) = Err (status.Scenario line k text)
accepted (Err error.Memory) = Err status.Memory

-- the scenario that bytes spell, or its first bad line
abbrev pub scenario_of : List ℕ → Result Scenario Status
scenario_of bytes = accepted (spelled bytes)

-- a file that is no configuration, by its first bad line
abbrev pub accepted_conf : List ℕ → Result Conf ConfError → Result Conf Status
accepted_conf file (Ok c) = Ok c
accepted_conf file (Err (conf.Bad line k text)) = Err (status.Conf file line k text)
accepted_conf file (Err conf.Memory) = Err status.Memory

-- a file that is no trace, by its cause
abbrev pub accepted_trace : List ℕ → Result Capture PcapError → Result Capture Status
accepted_trace file (Ok c) = Ok c
accepted_trace file (Err pcap.CutHeader) = Err (status.Trace file cause.CutHeader)
accepted_trace file (Err pcap.Magic) = Err (status.Trace file cause.Magic)
accepted_trace file (Err pcap.LinkType) = Err (status.Trace file cause.LinkType)
accepted_trace file (Err (pcap.CutRecord n)) = Err (status.Trace file (cause.CutRecord n))
accepted_trace file (Err pcap.Memory) = Err status.Memory

-- Lines with a packet's bytes count before all files.
abbrev pub before_traces : Scenario → Totals
before_traces s = record { items = packets_of s.phases; bytes = 0 }

-- With one file more: its records count for each line that names it, and its bytes once.
abbrev pub with_trace : Totals → ℕ → ℕ → ℕ → Totals
with_trace t lines records bytes = record { items = t.items + lines * records; bytes = t.bytes + bytes }

abbrev pub are_few : Totals → Bool
are_few t = nat_le t.items MOST_ITEMS && nat_le t.bytes MOST_TRACE_BYTES

abbrev pub if_few : List ℕ → Totals → Result Totals Status
if_few file t = if are_few t then Ok t else Err (status.Trace file cause.TooMany)

-- A file that lines name is a trace; the totals with it, or why it is refused.
abbrev pub after_lines : Totals → List ℕ → ℕ → List ℕ → Result Totals Status
after_lines t file zero bytes = Ok t
after_lines t file (suc k) bytes =
    accepted_trace file (capture_of bytes) >>= λ c. if_few file (with_trace t (suc k) (length c.records) (length bytes))

-- A file that a daemon names is a configuration.
abbrev pub as_named : Bool → List ℕ → List ℕ → Result (List ℕ) Status
as_named false file bytes = Ok bytes
as_named true file bytes = accepted_conf file (conf_spelled bytes) >>= λ c. Ok bytes

-- the totals with a file of these bytes, or why it is refused: as a configuration first
abbrev pub after_bytes : Totals → Naming → List ℕ → Result Totals Status
after_bytes t n bytes = as_named n.1.conf n.0 bytes >>= after_lines t n.0 n.1.lines

abbrev pub after_file : Files → Totals → Naming → Result Totals Status
after_file files t n = if_there n.0 (files n.0) >>= after_bytes t n

-- one file after the other: the first that is not there, or is refused
abbrev pub after_files : Files → Totals → List Naming → Result Totals Status
after_files files t [] = Ok t
after_files files t (n ∷ ns) = after_file files t n >>= λ u. after_files files u ns

abbrev pub with_files : Files → Scenario → Result Scenario Status
with_files files s = after_files files (before_traces s) (named_in s) >>= λ t. Ok s

-- The scenario that loading gives of the file of this name, or the first refusal: the file's, then that of its lines, and then
-- those of the files that they name, in the order of their first naming.
abbrev pub loaded : Files → List ℕ → Result Scenario Status
loaded files file = if_there file (files file) >>= scenario_of >>= with_files files

-- what comes behind a result, where it is one
abbrev pub if_ok : {A B : Type 0} → Result A Status → (A → List B) → List B
if_ok (Ok x) f = f x
if_ok (Err s) f = []

-- these files in their order, up to the first that is refused
abbrev pub further_read : Files → Totals → List Naming → List (List ℕ)
further_read files t [] = []
further_read files t (n ∷ ns) = n.0 ∷ if_ok (after_file files t n) (λ u. further_read files u ns)

abbrev pub but : List ℕ → List (List ℕ) → List (List ℕ)
but file names = filter (λ name. not (bytes_eq name file)) names

-- The files that loading reads, in their order, each once: the scenario, and then the files that it names, up to the first
-- refusal. A scenario that names itself is not read again.
abbrev pub files_read : Files → List ℕ → List (List ℕ)
files_read files file =
    file ∷ but file (if_ok (if_there file (files file) >>= scenario_of) (λ s. further_read files (before_traces s) (named_in s)))
