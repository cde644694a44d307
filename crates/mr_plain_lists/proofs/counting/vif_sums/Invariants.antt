use Rattle.std.proofs.Common.{◌≡◌, ◌+◌, ◌*◌, ◌≤◌, map, drop}
use Rattle.mr_model.specs.Counts.{vif_sums}
use Rattle.mr_plain_lists.specs.Knowing.{met_of}
use Rattle.mr_plain_lists.proofs.counting.vif_sums.Given as goal

abbrev pub invariant-loop-m : goal.invariant-loop-m
invariant-loop-m l = record {
  few_in : l.packets_in ≤ l.m-index;
  few_out : l.packets_out ≤ l.m-index;
  few_bytes_in : l.bytes_in ≤ l.m-index * 65535;
  few_bytes_out : l.bytes_out ≤ l.m-index * 65535;
  packets_in : l.packets_in + (vif_sums (map met_of (drop l.m-index l.mets)) l.v).packets_in ≡ (vif_sums (map met_of l.mets) l.v).packets_in;
  packets_out : l.packets_out + (vif_sums (map met_of (drop l.m-index l.mets)) l.v).packets_out ≡ (vif_sums (map met_of l.mets) l.v).packets_out;
  bytes_in : l.bytes_in + (vif_sums (map met_of (drop l.m-index l.mets)) l.v).bytes_in ≡ (vif_sums (map met_of l.mets) l.v).bytes_in;
  bytes_out : l.bytes_out + (vif_sums (map met_of (drop l.m-index l.mets)) l.v).bytes_out ≡ (vif_sums (map met_of l.mets) l.v).bytes_out;
}
