use Rattle.mr_history.proofs.Interleaving.{mapped_more}
use Rattle.mr_history.proofs.merging.push_records.Goals as goal

pub loop-place-preserved : goal.loop-place-preserved
loop-place-preserved c =
    rw (c.in_ok-push.ensures.items, c.loop-place.invariant)
    (mapped_more (λ r. record { lane = c.args.lane; fast = r }) c.args.all.now.items
    c.args.records.now c.loop-place.place c.get.result c.get.ensures)
