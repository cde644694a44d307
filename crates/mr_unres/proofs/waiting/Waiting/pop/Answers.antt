use Rattle.std.proofs.Common.{◌≡◌, ◌∷◌, ap, subst}
use Rattle.mr_unres.specs.Entries.{WaitingEntries}
use Rattle.mr_unres.specs.Slots.{SlotList, StandsFirst, somes}
use Rattle.mr_unres.proofs.Kept.{kept_pop, counted_there}
use Rattle.mr_unres.proofs.Listed.{entry_first, is_there}
use Rattle.mr_unres.proofs.Ordered.{first_out}
use Rattle.mr_unres.proofs.waiting.Waiting.pop.Goals as goal

pub take-entry-requires : goal.take-entry-requires
take-entry-requires c =
    let s : StandsFirst c.self.inside.slots.items c.in_ok-place.place = c.in_ok-place.ensures.first in
    is_there c.self.inside.slots.items c.in_ok-place.place s.entry (entry_first c.self.inside.slots.items c.in_ok-place.place s)

pub overflow_sub-self : goal.overflow_sub-self
overflow_sub-self c =
    let s : StandsFirst c.self.inside.slots.items c.in_ok-place.place = c.in_ok-place.ensures.first in
    counted_there c.self.inside.limit c.self.inside.count c.self.inside.oldest c.self.inside.slots s.before s.entry s.after s.whole c.self.invariant

pub invariant_of-self : goal.invariant_of-self
invariant_of-self c =
    kept_pop c.self.inside.limit c.self.inside.count c.self.inside.oldest c.self.inside.slots c.take-entry.new.self c.in_ok-place.place
    c.in_ok-place.ensures.first c.take-entry.ensures.gap c.self.invariant

some : (c : goal.After-self-2-1) → c.args.self.now.entries ≡ c.take-entry.result ∷ somes c.take-entry.new.self.items
some c =
    subst (λ (w : WaitingEntries). w.entries ≡ c.take-entry.result ∷ somes c.take-entry.new.self.items) c.self.view_is
    (first_out c.self.inside.slots.items c.take-entry.new.self.items c.in_ok-place.place c.take-entry.result c.in_ok-place.ensures.first
    c.take-entry.ensures.value (ap (λ (slots : SlotList). slots.items) c.take-entry.ensures.gap))

pub returns-clause-some : goal.returns-clause-some
returns-clause-some c = some c
