use Rattle.std.proofs.Common.{sym, ◌∙◌, Some, ap}
use Rattle.mr_history.proofs.Gathering.{take_found}
use Rattle.mr_history.proofs.walking.all_entries.Goals as goal

pub loop-place-preserved : goal.loop-place-preserved
loop-place-preserved c =
    rw (c.in_ok-push.ensures.items, c.loop-place.invariant)
    (sym (take_found _ c.loop-place.place _
    (c.entry.ensures.seen ∙ ap (λ x. Some x) (sym c.in_ok-entry.ensures))))
