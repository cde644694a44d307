use Rattle.std.proofs.Common.{◌≡◌, ◌∙◌, ap, arith}
use Rattle.mr_book.specs.declared.view.Known.{Known}
use Rattle.mr_model.specs.declared.entry.Entry.{Entry}
use Rattle.mr_router.proofs.Walking.{numbers_step, daemons_step}
use Rattle.mr_router.proofs.loops.deal_daemons.Goals as goal

pub loop-index-preserved : goal.loop-index-preserved
loop-index-preserved g c =
    let inv = c.loop-index.invariant in
    let pushed = c.push_reserved.ensures in
    record {
      daemons = daemons_step c.loop-index.index c.loop-index.daemons.items c.push_reserved.new.self.items c.deal.result.seen inv.daemons (ap (λ (v : Known Entry). v.seen) c.deal.ensures.seat) pushed.items;
      room = omega (arith, pushed.len, pushed.capacity, inv.room);
      dealer = c.deal.ensures.dealer ∙ numbers_step c.loop-index.dealer 17 8 c.loop-index.index inv.dealer;
    }
