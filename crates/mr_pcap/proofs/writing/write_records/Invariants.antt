use Rattle.std.proofs.Common.{◌≡◌, ◌++◌, flat_map, map, drop}
use Rattle.mr_pcap.specs.Places.{captured_at}
use Rattle.mr_pcap.specs.Traces.{record_bytes}
use Rattle.mr_pcap.proofs.writing.write_records.Given as goal

-- what is written, and the records left
abbrev pub invariant-loop-start : goal.invariant-loop-start
invariant-loop-start l =
    l.out.items ++ flat_map record_bytes (map (captured_at l.order l.file) (drop l.start-index l.starts))
    ≡ l.fn.out.items ++ flat_map record_bytes (map (captured_at l.order l.file) l.starts)
