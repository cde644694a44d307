use Rattle.std.proofs.Common.{◌≡◌, ◌∷◌, ◌-◌, nat_lt, false, filter, sym, ap, ◌∙◌, subst}
use Rattle.mr_unres.specs.Entries.{WaitingEntries, awaiting, is_young}
use Rattle.mr_unres.specs.Slots.{SlotList, StandsFirst, somes}
use Rattle.mr_unres.proofs.Kept.{kept_pop, counted_there}
use Rattle.mr_unres.proofs.Listed.{entry_first, is_there, awaiting_filter}
use Rattle.mr_unres.proofs.Ordered.{young_all, first_out, oldest_expired, young_rest}
use Rattle.mr_unres.proofs.waiting.Waiting.pop_expired.Goals as goal

pub returns-then-is_young_at-clause-none : goal.returns-then-is_young_at-clause-none
returns-then-is_young_at-clause-none c =
    subst (λ (w : WaitingEntries). filter (is_young c.args.now) w.entries ≡ w.entries) c.self.view_is
    (young_all c.args.now c.self.inside.slots.items c.in_ok-place.place c.is_young_at.result c.in_ok-place.ensures.first
    c.is_young_at.ensures c.if-is_young_at.true c.self.invariant.rising)

pub returns-then-is_young_at-clause-all_young : goal.returns-then-is_young_at-clause-all_young
returns-then-is_young_at-clause-all_young c =
    awaiting_filter (λ a. nat_lt (c.args.now - a.since) 10000) c.args.self.now.entries
    ∙ ap awaiting (returns-then-is_young_at-clause-none c)

pub take-entry-requires : goal.take-entry-requires
take-entry-requires c =
    let s : StandsFirst c.self.inside.slots.items c.in_ok-place.place = c.in_ok-place.ensures.first in
    is_there c.self.inside.slots.items c.in_ok-place.place s.entry (entry_first c.self.inside.slots.items c.in_ok-place.place s)

pub overflow_sub-self : goal.overflow_sub-self
overflow_sub-self c =
    let s : StandsFirst c.self.inside.slots.items c.in_ok-place.place = c.in_ok-place.ensures.first in
    counted_there c.self.inside.limit c.self.inside.count c.self.inside.oldest c.self.inside.slots s.before s.entry s.after s.whole c.self.invariant

pub invariant_of-self-2 : goal.invariant_of-self-2
invariant_of-self-2 c =
    kept_pop c.self.inside.limit c.self.inside.count c.self.inside.oldest c.self.inside.slots c.take-entry.new.self c.in_ok-place.place
    c.in_ok-place.ensures.first c.take-entry.ensures.gap c.self.invariant

some : (c : goal.After-self-2-1) → c.args.self.now.entries ≡ c.take-entry.result ∷ somes c.take-entry.new.self.items
some c =
    subst (λ (w : WaitingEntries). w.entries ≡ c.take-entry.result ∷ somes c.take-entry.new.self.items) c.self.view_is
    (first_out c.self.inside.slots.items c.take-entry.new.self.items c.in_ok-place.place c.take-entry.result c.in_ok-place.ensures.first
    c.take-entry.ensures.value (ap (λ (slots : SlotList). slots.items) c.take-entry.ensures.gap))

pub returns-clause-some : goal.returns-clause-some
returns-clause-some c = some c

expired : (c : goal.After-self-2-1) → is_young c.args.now c.take-entry.result ≡ false
expired c =
    oldest_expired c.args.now c.self.inside.slots.items c.in_ok-place.place c.is_young_at.result c.take-entry.result
    c.take-entry.ensures.value c.is_young_at.ensures c.if-is_young_at.false

pub returns-clause-expired : goal.returns-clause-expired
returns-clause-expired c = expired c

pub returns-clause-young : goal.returns-clause-young
returns-clause-young c =
    awaiting_filter (λ a. nat_lt (c.args.now - a.since) 10000) (somes c.take-entry.new.self.items)
    ∙ ap awaiting (young_rest c.args.now c.args.self.now.entries (somes c.take-entry.new.self.items) c.take-entry.result (some c) (expired c))
    ∙ sym (awaiting_filter (λ a. nat_lt (c.args.now - a.since) 10000) c.args.self.now.entries)
