use Rattle.mr_egress.proofs.Listing.{flat_more}
use Rattle.mr_egress.specs.FastOrder.{fast_of}
use Rattle.mr_egress.proofs.fast.in_settle_order.Goals as goal

pub loop-place-preserved : goal.loop-place-preserved
loop-place-preserved c =
    rw (c.in_ok-push_entry.ensures, c.loop-place.invariant)
    (flat_more fast_of c.args.journal.now.entries c.loop-place.place _ c.entry.ensures)
