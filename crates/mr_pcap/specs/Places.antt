-- Records by where they lie in a file.
use Rattle.std.specs.Prelude.{ℕ, ◌<◌, ◌++◌, ◌^◌, List, drop, length, slice_index, All, IsSome}
use Rattle.mr_pcap.specs.declared.order.Order.{Order}
use Rattle.mr_pcap.specs.declared.record.Record.{Record}
use Rattle.mr_pcap.specs.Traces.{Captured, record_of, whole_length}

-- the record that lies at an index of a file
abbrev pub captured_at : Order → List ℕ → ℕ → Captured
captured_at order file start = record_of order (drop start file)

-- each of the records that begin at these indices is whole
abbrev pub AreWhole : Order → List ℕ → List ℕ → Type 0
AreWhole order file starts = All (λ start. IsSome (whole_length order (drop start file))) starts

-- what a record says
abbrev pub captured : Record → Captured
captured r = record { sec = r.sec; frac = r.frac; orig = r.orig; bytes = r.bytes.now }

-- the packet with further bytes behind its own
abbrev pub followed_by : Captured → List ℕ → Captured
followed_by r rest = record r { bytes = r.bytes ++ rest }

-- These numbers are bytes.
abbrev pub AreBytes : List ℕ → Type 0
AreBytes bs = (k : ℕ) → slice_index bs k < 256

-- A record's numbers fit in the 32 bits that they have in a file.
pub record Fits (r : Captured) : Type 0 where
  pub sec : r.sec < 2 ^ 32
  pub frac : r.frac < 2 ^ 32
  pub orig : r.orig < 2 ^ 32
  pub bytes : length r.bytes < 2 ^ 32
