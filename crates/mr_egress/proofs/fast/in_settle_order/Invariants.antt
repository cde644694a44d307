use Rattle.std.proofs.Common.{◌≡◌, flat_map, take}
use Rattle.mr_egress.specs.FastOrder.{fast_of}
use Rattle.mr_egress.proofs.fast.in_settle_order.Given as goal

abbrev pub invariant-loop-place : goal.invariant-loop-place
invariant-loop-place l = l.all.items ≡ flat_map fast_of (take l.place l.journal.entries)
