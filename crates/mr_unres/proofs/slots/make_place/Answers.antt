use Rattle.mr_unres.proofs.Listed.{somes_filter, length_filter}
use Rattle.mr_unres.proofs.slots.make_place.Goals as goal

pub returns-then-is_full-clause-free : goal.returns-then-is_full-clause-free
returns-then-is_full-clause-free c = rw c.close_gaps.ensures (rw (length_filter c.args.slots.now.items) c.requires.fewer)

pub returns-then-is_full-clause-same : goal.returns-then-is_full-clause-same
returns-then-is_full-clause-same c = rw c.close_gaps.ensures (somes_filter c.args.slots.now.items)
