-- Laws of egress traces.
use Rattle.std.specs.Prelude.{◌≡◌, ℕ, None, Ok, List, length}
use Rattle.std.specs.List.{AllByRecursion}
use Rattle.mr_base.specs.Heads.{cause_of, two_at}
use Rattle.mr_load.specs.Dues.{Due, LaneValue}
use Rattle.mr_model.specs.declared.entry.Entry.{Entry}
use Rattle.mr_model.specs.declared.limits.Limits.{Limits}
use Rattle.mr_pcap.specs.Places.{AreBytes}
use Rattle.mr_pcap.specs.Traces.{capture_of}
use Rattle.mr_egress.specs.Copies.{sent_packet}
use Rattle.mr_egress.specs.Files.{file, trace}

-- a copy of accepted bytes has the total length that their head says
abbrev pub CopyIsWhole : Type 0
CopyIsWhole = (bs : List ℕ) → cause_of bs ≡ None → length (sent_packet bs) ≡ two_at bs 2

-- A packet's bytes begin with an accepted head, and are bytes.
abbrev pub IsLoaded : Due → Type 0
IsLoaded d = (cause_of d.bytes ≡ None) × AreBytes d.bytes

abbrev pub AreLoaded : List LaneValue → Type 0
AreLoaded lanes = AllByRecursion (λ v. AllByRecursion IsLoaded v.packets) lanes

-- a file, read as a trace, is the trace again
abbrev pub FileSpellsItsTrace : Type 0
FileSpellsItsTrace = (limits : Limits) (lanes : List LaneValue) (h : List Entry) (dev : ℕ) → AreLoaded lanes
    → capture_of (file limits lanes h dev) ≡ Ok (trace limits lanes h dev)
