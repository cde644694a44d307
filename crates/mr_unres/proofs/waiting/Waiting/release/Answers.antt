use Rattle.std.proofs.Common.{◌≡◌, ℕ, ◌-◌, Some, List, map, filter, not, sym, ap, ◌∙◌, subst}
use Rattle.std.proofs.lemmas.Option.{same_Some}
use Rattle.mr_model.specs.WaitingList.{is_awaiting}
use Rattle.mr_model.specs.declared.packet.Packet.{Packet}
use Rattle.mr_unres.specs.declared.unresolved.Unresolved.{Unresolved}
use Rattle.mr_unres.specs.Entries.{WaitingEntries, awaiting, waiter_of, is_for, packets_in, packets_for, with_entries}
use Rattle.mr_unres.specs.Slots.{SlotList, StandsAt, somes}
use Rattle.mr_unres.specs.Keeping.{IsKept}
use Rattle.mr_unres.proofs.Kept.{kept_gap, counted_there}
use Rattle.mr_unres.proofs.Listed.{entry_stands, find_stands, find_fails, filter_fails, is_there, left_gap, waiters_found, awaiting_filter}
use Rattle.mr_unres.proofs.waiting.Waiting.release.Goals as goal

pub take-entry-requires : goal.take-entry-requires
take-entry-requires c =
    let s : StandsAt (is_for c.args.src c.args.dst) c.self.inside.slots.items c.in-Some.place = c.in-Some.ensures.stands in
    is_there c.self.inside.slots.items c.in-Some.place s.entry (entry_stands (is_for c.args.src c.args.dst) c.self.inside.slots.items c.in-Some.place s)

pub overflow_sub-self : goal.overflow_sub-self
overflow_sub-self c =
    let s : StandsAt (is_for c.args.src c.args.dst) c.self.inside.slots.items c.in-Some.place = c.in-Some.ensures.stands in
    counted_there c.self.inside.limit c.self.inside.count c.self.inside.oldest c.self.inside.slots s.before s.entry s.after s.whole c.self.invariant

pub invariant_of-self : goal.invariant_of-self
invariant_of-self c =
    let s : StandsAt (is_for c.args.src c.args.dst) c.self.inside.slots.items c.in-Some.place = c.in-Some.ensures.stands in
    subst (λ (slots : SlotList). IsKept c.self.inside.limit (c.self.inside.count - 1) c.self.inside.oldest slots) (sym c.take-entry.ensures.gap)
    (kept_gap c.self.inside.limit c.self.inside.count c.self.inside.oldest c.self.inside.slots s.before s.entry s.after c.in-Some.place c.self.inside.oldest
    s.whole s.place c.self.invariant.inside c.self.invariant.gone c.self.invariant)

pub returns-in-Some-clause-packets : goal.returns-in-Some-clause-packets
returns-in-Some-clause-packets c =
    let s : StandsAt (is_for c.args.src c.args.dst) c.self.inside.slots.items c.in-Some.place = c.in-Some.ensures.stands in
    let found : packets_for (somes c.self.inside.slots.items) c.args.src c.args.dst ≡ packets_in (Some s.entry) =
    ap packets_in (find_stands (is_for c.args.src c.args.dst) c.self.inside.slots.items c.in-Some.place s) in
    let taken : s.entry ≡ c.take-entry.result =
    same_Some s.entry c.take-entry.result
    (sym (entry_stands (is_for c.args.src c.args.dst) c.self.inside.slots.items c.in-Some.place s) ∙ c.take-entry.ensures.value) in
    subst (λ (w : WaitingEntries). c.into_packets.result.items ≡ packets_for w.entries c.args.src c.args.dst) c.self.view_is
    (c.into_packets.ensures ∙ sym (found ∙ ap (λ (e : Unresolved). packets_in (Some e)) taken))

pub returns-in-Some-clause-waiters : goal.returns-in-Some-clause-waiters
returns-in-Some-clause-waiters c =
    ap (λ (ps : List Packet). map waiter_of ps) (returns-in-Some-clause-packets c) ∙ waiters_found c.args.self.now.entries c.args.src c.args.dst

left : (c : goal.After-into_packets) → somes c.take-entry.new.self.items ≡ filter (λ e. not (is_for c.args.src c.args.dst e)) c.args.self.now.entries
left c =
    let s : StandsAt (is_for c.args.src c.args.dst) c.self.inside.slots.items c.in-Some.place = c.in-Some.ensures.stands in
    subst (λ (w : WaitingEntries). somes c.take-entry.new.self.items ≡ filter (λ e. not (is_for c.args.src c.args.dst e)) w.entries) c.self.view_is
    (ap (λ (slots : SlotList). somes slots.items) c.take-entry.ensures.gap
    ∙ left_gap (is_for c.args.src c.args.dst) c.self.inside.slots.items c.in-Some.place s)

pub returns-in-Some-clause-left : goal.returns-in-Some-clause-left
returns-in-Some-clause-left c =
    let limit : c.self.inside.limit ≡ c.args.self.now.limit = ap (λ (w : WaitingEntries). w.limit) c.self.view_is in
    let is : List Unresolved → ℕ → WaitingEntries = λ (es : List Unresolved) (n : ℕ). record { entries = es; limit = n } in
    ap (λ (n : ℕ). is (somes c.take-entry.new.self.items) n) limit ∙ ap (λ (es : List Unresolved). is es c.args.self.now.limit) (left c)

pub returns-in-Some-clause-model : goal.returns-in-Some-clause-model
returns-in-Some-clause-model c =
    ap awaiting (left c) ∙ sym (awaiting_filter (λ a. not (is_awaiting c.args.src c.args.dst a)) c.args.self.now.entries)

pub returns-in-None-clause-packets : goal.returns-in-None-clause-packets
returns-in-None-clause-packets c =
    subst (λ (w : WaitingEntries). c.new.result.items ≡ packets_for w.entries c.args.src c.args.dst) c.self.view_is
    (c.new.ensures ∙ sym (ap packets_in (find_fails (is_for c.args.src c.args.dst) (somes c.self.inside.slots.items) c.in-None.ensures.none)))

pub returns-in-None-clause-waiters : goal.returns-in-None-clause-waiters
returns-in-None-clause-waiters c =
    ap (λ (ps : List Packet). map waiter_of ps) (returns-in-None-clause-packets c) ∙ waiters_found c.args.self.now.entries c.args.src c.args.dst

pub returns-in-None-clause-left : goal.returns-in-None-clause-left
returns-in-None-clause-left c =
    let is : List Unresolved → WaitingEntries = λ (es : List Unresolved). record { entries = es; limit = c.self.inside.limit } in
    subst (λ (w : WaitingEntries). w ≡ with_entries w (filter (λ e. not (is_for c.args.src c.args.dst e)) w.entries)) c.self.view_is
    (ap is (sym (filter_fails (is_for c.args.src c.args.dst) (somes c.self.inside.slots.items) c.in-None.ensures.none)))

pub returns-in-None-clause-model : goal.returns-in-None-clause-model
returns-in-None-clause-model c =
    ap (λ (w : WaitingEntries). awaiting w.entries) (returns-in-None-clause-left c)
    ∙ sym (awaiting_filter (λ a. not (is_awaiting c.args.src c.args.dst a)) c.args.self.now.entries)
