use Rattle.std.proofs.Common.{◌≡◌, ◌+◌, ◌*◌, ◌≤◌, map, drop}
use Rattle.mr_model.specs.Counts.{route_sums}
use Rattle.mr_plain_lists.specs.Knowing.{met_of}
use Rattle.mr_plain_lists.proofs.counting.route_sums.Given as goal

abbrev pub invariant-loop-m : goal.invariant-loop-m
invariant-loop-m l = record {
  few : l.packets ≤ l.m-index;
  few_wrong : l.wrong ≤ l.m-index;
  few_bytes : l.bytes ≤ l.m-index * 65535;
  packets : l.packets + (route_sums (map met_of (drop l.m-index l.mets)) l.entry).packets ≡ (route_sums (map met_of l.mets) l.entry).packets;
  bytes : l.bytes + (route_sums (map met_of (drop l.m-index l.mets)) l.entry).bytes ≡ (route_sums (map met_of l.mets) l.entry).bytes;
  wrong : l.wrong + (route_sums (map met_of (drop l.m-index l.mets)) l.entry).wrong ≡ (route_sums (map met_of l.mets) l.entry).wrong;
}
