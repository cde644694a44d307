use Rattle.std.proofs.Common.{◌≡◌, ◌-◌, ◌≤◌, length, drop, map, zero}
use Rattle.mr_pcap.proofs.Records.{onto_all}
use Rattle.mr_pcap.specs.Places.{AreWhole, captured_at}
use Rattle.mr_pcap.specs.Traces.{records_behind}
use Rattle.mr_pcap.proofs.reading.starts_of.Given as goal

-- the records so far, and those of what is left, are those of all
abbrev pub invariant-loop-start : goal.invariant-loop-start
invariant-loop-start l = record {
  within : l.start ≤ length l.file;
  whole : AreWhole l.order l.file l.starts.items;
  same : onto_all (map (captured_at l.order l.file) l.starts.items) (records_behind l.order l.number zero (drop l.start l.file))
      ≡ records_behind l.order 1 24 l.file;
}

abbrev pub decreases-loop-start : goal.decreases-loop-start
decreases-loop-start l = length l.file - l.start
