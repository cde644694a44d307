use Rattle.mr_unres.proofs.Listed.{first_some, gap_next}
use Rattle.mr_unres.proofs.slots.Slots.first_from.Goals as goal

pub returns-then-is_some-clause-first : goal.returns-then-is_some-clause-first
returns-then-is_some-clause-first c =
    first_some c.args.self.now.items c.loop-place.place c.entry_at.result c.entry_at.ensures c.if-is_some.ensures c.loop-place.invariant

pub loop-place-preserved : goal.loop-place-preserved
loop-place-preserved c =
    gap_next c.args.self.now.items c.loop-place.place c.entry_at.result c.entry_at.ensures c.if-is_some.ensures c.loop-place.invariant
