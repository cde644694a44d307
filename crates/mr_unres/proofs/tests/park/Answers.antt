use Rattle.std.proofs.Common.{sym, subst, List}
use Rattle.mr_model.specs.WaitingList.{Awaiting}
use Rattle.mr_unres.specs.Entries.{NoneAfter, WaitingEntries, awaiting, waiter_of}
use Rattle.mr_unres.proofs.Moments.{none_after_later, none_after_park}
use Rattle.mr_unres.proofs.tests.park.Goals as goal

pub returns-in-Ok : goal.returns-in-Ok
returns-in-Ok c =
    subst (λ (ws : List Awaiting). NoneAfter c.args.later ws) (sym c.in-Ok.ensures.model)
    (none_after_later c.args.now c.args.later _ c.requires.order
    (none_after_park c.args.now (waiter_of c.packet.result) (awaiting c.args.waiting.now.entries) c.requires.none_after))

pub returns-in-Err : goal.returns-in-Err
returns-in-Err c =
    subst (λ (w : WaitingEntries). NoneAfter c.args.later (awaiting w.entries)) (sym c.in-Err.ensures.refused)
    (none_after_later c.args.now c.args.later (awaiting c.args.waiting.now.entries) c.requires.order c.requires.none_after)
