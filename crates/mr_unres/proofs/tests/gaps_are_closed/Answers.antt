use Rattle.std.proofs.Common.{List, not, sym, subst}
use Rattle.mr_model.specs.WaitingList.{Awaiting, is_awaiting}
use Rattle.mr_unres.specs.Entries.{NoneAfter, awaiting}
use Rattle.mr_unres.proofs.Moments.{none_after_filter}
use Rattle.mr_unres.proofs.tests.gaps_are_closed.Goals as goal

pub loop-host-preserved : goal.loop-host-preserved
loop-host-preserved g c =
    subst (λ (ws : List Awaiting). NoneAfter 0 ws) (sym c.release.ensures.model)
    (none_after_filter 0 (λ a. not (is_awaiting c.source.result _ a)) (awaiting c.park-in-loop-host.new.waiting.entries) c.park-in-loop-host.ensures)
