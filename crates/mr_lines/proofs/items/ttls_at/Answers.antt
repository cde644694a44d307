use Rattle.std.proofs.Common.{◌∙◌, length-set}
use Rattle.mr_lines.specs.Bytes.{behind}
use Rattle.mr_lines.proofs.ItemLaws.{ttls_step, ttls_done}
use Rattle.mr_lines.proofs.items.ttls_at.Goals as goal

pub loop-i-preserved : goal.loop-i-preserved
loop-i-preserved c =
    let step = ttls_step c.loop-i.i c.item_for-ttl.result.0 c.loop-i.ttls _ (behind c.loop-i.left.now) (behind c.item_for-ttl.result.1.now) _ c.loop-i-test.true c.loop-i.invariant.long c.item_for-ttl.ensures.ttl c.item_for-ttl.ensures.left c.loop-i.invariant.done c.loop-i.invariant.others in
    record { long = length-set c.loop-i.ttls c.loop-i.i c.item_for-ttl.result.0 ∙ c.loop-i.invariant.long; done = step.0; others = step.1 }

pub returns : goal.returns
returns c =
    let end = ttls_done c.loop-i.i c.loop-i.ttls _ (behind c.loop-i.left.now) _ c.loop-i-test.false c.loop-i.invariant.long c.loop-i.invariant.done c.loop-i.invariant.others in
    (λ j. (end.0 j, end.1 j))
