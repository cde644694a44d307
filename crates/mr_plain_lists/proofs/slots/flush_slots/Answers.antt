use Rattle.std.proofs.Common.{◌∙◌, arith}
use Rattle.std.proofs.lemmas.List.{length-set}
use Rattle.mr_plain_lists.specs.Indexed.{flushed}
use Rattle.mr_plain_lists.proofs.Editing.{gone_over}
use Rattle.mr_plain_lists.proofs.slots.flush_slots.Goals as goal

pub loop-i-preserved : goal.loop-i-preserved
loop-i-preserved c =
    let on = gone_over (flushed c.args.loose c.args.fixed) c.loop-i.slots.items c.args.slots.now.items c.loop-i.i c.index.result.now (omega (arith, c.loop-i-test.true, c.len-i-end.ensures, c.args.slots.now.ok)) c.loop-i.invariant.size c.index.ensures c.loop-i.invariant.done c.loop-i.invariant.rest in
    record {
      size = length-set c.loop-i.slots.items c.loop-i.i c.flushed.result ∙ c.loop-i.invariant.size;
      done = rw c.flushed.ensures on.0;
      rest = rw c.flushed.ensures on.1;
    }
