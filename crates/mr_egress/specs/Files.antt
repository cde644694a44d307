-- The egress trace of a device: a pcap file of the copies that leave by it.
use Rattle.std.specs.Prelude.{ℕ, false, if◌then◌else◌, List, [], ◌++◌, length, map, flat_map}
use Rattle.mr_base.specs.declared.numbers.Mask.{Mask}
use Rattle.mr_load.specs.Dues.{LaneValue}
use Rattle.mr_model.specs.declared.entry.Entry.{Entry}
use Rattle.mr_model.specs.declared.limits.Limits.{Limits}
use Rattle.mr_model.specs.Ending.{indexes}
use Rattle.mr_model.specs.Verdict.{is_in}
use Rattle.mr_pcap.specs.declared.link_type.LinkType.TheVariants.{RawIpv4}
use Rattle.mr_pcap.specs.Traces.{Capture, Captured, file_bytes, record_bytes}
use Rattle.mr_egress.specs.Copies.{copies}

-- The record of a copy, at second 0 and fraction 0. The whole copy is there.
abbrev pub record_of : List ℕ → Captured
record_of copy = record { sec = 0; frac = 0; orig = length copy; bytes = copy }

-- The trace of copies: raw IPv4, link type 228, with microseconds.
abbrev pub trace_of : List (List ℕ) → Capture
trace_of copies = record { link = RawIpv4; nanos = false; records = map record_of copies }

-- The egress trace of a device over a history.
abbrev pub trace : Limits → List LaneValue → List Entry → ℕ → Capture
trace limits lanes h dev = trace_of (copies limits lanes h dev)

-- Its file: the header, little-endian, and a record for each copy.
abbrev pub file : Limits → List LaneValue → List Entry → ℕ → List ℕ
file limits lanes h dev = file_bytes (trace limits lanes h dev)

-- the bytes of a record with this head and what stands behind it
abbrev pub record_with : ℕ → List ℕ → List ℕ → List ℕ
record_with total head body = record_bytes (record { sec = 0; frac = 0; orig = total; bytes = head ++ body })

-- these bytes once for each vif in a mask
unfoldable pub each_way : Mask → List ℕ → List ℕ
each_way mask bytes = flat_map (λ i. if is_in mask i then bytes else []) indexes

-- the bytes of the records of copies
abbrev pub records_of : List (List ℕ) → List ℕ
records_of copies = flat_map record_bytes (map record_of copies)
