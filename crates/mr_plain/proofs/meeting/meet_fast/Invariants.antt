use Rattle.std.proofs.Common.{◌≡◌, ◌+◌, ◌++◌, ◌≤◌, map, drop, length, vec_len, vec_capacity}
use Rattle.mr_model.specs.Counts.{met_fast}
use Rattle.mr_plain_lists.specs.Knowing.{met_of}
use Rattle.mr_plain.proofs.meeting.meet_fast.Given as goal

abbrev pub invariant-loop-r : goal.invariant-loop-r
invariant-loop-r l = record {
  room : vec_len l.mets + length (drop l.r-index l.records) ≤ vec_capacity l.mets;
  met : map met_of l.mets.items ++ map met_fast (drop l.r-index l.records) ≡ map met_of l.initial.mets.items ++ map met_fast l.records;
}
