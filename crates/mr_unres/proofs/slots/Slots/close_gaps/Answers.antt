use Rattle.std.proofs.Common.{◌≡◌, ◌∙◌, List, is_some, filter, sym, subst, ap, arith, rules}
use Rattle.std.proofs.lemmas.Fn.{filter_same}
use Rattle.mr_unres.specs.Slots.{SlotList, AreApart, with_slots}
use Rattle.mr_unres.proofs.Places.{Slot, apart_from, apart_filter}
use Rattle.mr_unres.proofs.slots.Slots.close_gaps.Goals as goal

pub lead_all-requires-clause-apart : goal.lead_all-requires-clause-apart
lead_all-requires-clause-apart c =
    let items : List Slot = c.self.inside.entries.items in
    let kept : c.retain.new.self.items ≡ filter is_some items = filter_same _ is_some _ (λ x b f' k. search rules) _ _ c.retain.ensures.filtered in
    subst (λ (xs : List Slot). AreApart xs) (sym (c.as_slice.ensures.value ∙ kept))
    (apart_filter items (apart_from items c.self.inside.index c.self.invariant.leads))

pub lead_all-requires-clause-room : goal.lead_all-requires-clause-room
lead_all-requires-clause-room c = omega arith

pub returns : goal.returns
returns c =
    let items : List Slot = c.self.inside.entries.items in
    let kept : c.retain.new.self.items ≡ filter is_some items = filter_same _ is_some _ (λ x b f' k. search rules) _ _ c.retain.ensures.filtered in
    let closed : List Slot → SlotList = λ (xs : List Slot). record { items = xs; capacity = c.self.inside.capacity } in
    subst (λ (s : SlotList). closed c.retain.new.self.items ≡ with_slots s (filter is_some s.items)) c.self.view_is (ap closed kept)
