use Rattle.std.proofs.Common.{◌≡◌, ◌++◌, take, vec_capacity}
use Rattle.mr_history.proofs.store_pushes.release_all.Given as goal

abbrev pub invariant-loop-packet : goal.invariant-loop-packet
invariant-loop-packet l = record {
  items : l.kept.items ≡ l.initial.kept.items ++ take l.packet-index l.released;
  capacity : vec_capacity l.kept ≡ vec_capacity l.initial.kept;
}
