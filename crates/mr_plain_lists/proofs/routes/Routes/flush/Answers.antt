use Rattle.mr_plain_lists.proofs.Editing.{newest_flushed}
use Rattle.mr_plain_lists.proofs.Fading.{fades_flushed, indexed_fade}
use Rattle.mr_plain_lists.proofs.routes.Routes.flush.Goals as goal

pub invariant_of-self : goal.invariant_of-self
invariant_of-self c =
    let count = rw c.as_slice.ensures.value at c.count_live-self-inside.ensures in
    indexed_fade _ _ _ _ _ (rw c.flush_slots.ensures (fades_flushed c.args.loose c.args.fixed c.self.inside.slots.items)) c.self.invariant count

pub returns : goal.returns
returns c = rw (← c.self.view_is, c.flush_slots.ensures) (newest_flushed c.args.loose c.args.fixed c.self.inside.slots.items)
