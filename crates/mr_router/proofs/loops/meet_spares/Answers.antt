use Rattle.std.proofs.Common.{◌≡◌, ◌∙◌, ap, sym, subst}
use Rattle.mr_book.specs.declared.view.Known.{Known}
use Rattle.mr_book.specs.Opening.{Numbers}
use Rattle.mr_book.specs.Views.{met}
use Rattle.mr_model.specs.declared.entry.Entry.{Entry}
use Rattle.mr_router.specs.Seats.{HoldsRouter}
use Rattle.mr_router.proofs.Holding.{spare_met, spare_unseen}
use Rattle.mr_router.proofs.Walking.{numbers_step}
use Rattle.mr_router.proofs.loops.meet_spares.Goals as goal

pub loop-met-preserved : goal.loop-met-preserved
loop-met-preserved g c =
    let k = c.loop-met.router in
    let inv = c.loop-met.invariant in
    let n = c.loop-met.dealer.next in
    let is = c.meet.ensures.met ∙ ap (met k) c.deal-seat.ensures.seat in
    record {
      dealer = c.deal-seat.ensures.dealer ∙ numbers_step c.loop-met.dealer c.args.dealer.now.next c.args.dealer.now.left c.loop-met.met inv.dealer;
      router = subst HoldsRouter (sym is) (spare_met k n inv.router inv.unseen);
      unseen = ap (λ (v : Known Entry). v.seen) is ∙ spare_unseen k n inv.unseen;
    }
