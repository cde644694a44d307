use Rattle.mr_egress.proofs.Listing.{mapped_more}
use Rattle.mr_egress.specs.FastOrder.{fast_sent}
use Rattle.mr_egress.proofs.fast.push_records.Goals as goal

pub loop-place-preserved : goal.loop-place-preserved
loop-place-preserved c =
    rw (c.in_ok-push.ensures.items, c.loop-place.invariant)
    (mapped_more (fast_sent c.args.lane) c.args.all.now.items
    c.args.records.now c.loop-place.place c.get-record.result c.get-record.ensures)
