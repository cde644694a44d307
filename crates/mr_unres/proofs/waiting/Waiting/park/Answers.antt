use Rattle.std.proofs.Common.{◌≡◌, ◌<◌, ◌≤◌, [], ◌∷◌, ◌++◌, Some, None, Ok, Bool, false, List, length, map, slice_set, refl, sym, ap, ◌∙◌, subst, arith}
use Rattle.std.specs.Prelude.{if◌then◌else◌}
use Rattle.std.proofs.lemmas.List.{length-append}
use Rattle.std.proofs.lemmas.Result.{on_ok_weaker}
use Rattle.mr_model.specs.WaitingList.{park}
use Rattle.mr_unres.specs.declared.room.Room.{Room}
use Rattle.mr_unres.specs.declared.room.Room.TheVariants.{PacketsFull, Join}
use Rattle.mr_unres.specs.declared.unresolved.Unresolved.{Unresolved}
use Rattle.mr_unres.specs.declared.unresolved.TheConstants.{MOST_PACKETS}
use Rattle.mr_unres.specs.Entries.{WaitingEntries, awaiting, waiter_of, is_for, room_in, room_at, answer_by, entry_at, joined, with_packet, with_entries}
use Rattle.mr_unres.specs.Slots.{SlotList, StandsAt, somes, with_slots}
use Rattle.mr_unres.specs.Keeping.{IsKept}
use Rattle.mr_unres.proofs.Kept.{kept_set}
use Rattle.mr_unres.proofs.Listed.{room_there, room_absent, join_slots, join_list, join_model, few_where, park_new}
use Rattle.mr_unres.proofs.waiting.Waiting.park.Goals as goal

joins : (c : goal.After-join) → let s : StandsAt (is_for c.args.packet.head.src c.args.packet.head.dst) c.self.inside.slots.items c.in-Some.place = c.in-Some.ensures.stands in
    c.join.new.self ≡ with_slots c.self.inside.slots (slice_set c.self.inside.slots.items c.in-Some.place (Some (with_packet c.args.packet s.entry)))
joins c = join_slots c.args.packet (is_for c.args.packet.head.src c.args.packet.head.dst) c.self.inside.slots c.join.new.self c.in-Some.place
    c.in-Some.ensures.stands c.join.ensures

pub invariant_of-self : goal.invariant_of-self
invariant_of-self c =
    let s : StandsAt (is_for c.args.packet.head.src c.args.packet.head.dst) c.self.inside.slots.items c.in-Some.place = c.in-Some.ensures.stands in
    let few : length s.entry.packets < MOST_PACKETS =
    few_where (is_for c.args.packet.head.src c.args.packet.head.dst) c.self.inside.slots.items c.in-Some.place c.has_room.result s c.if-has_room.true c.has_room.ensures in
    let fits : length (s.entry.packets ++ c.args.packet ∷ []) ≤ MOST_PACKETS = omega (arith, few, length-append s.entry.packets (c.args.packet ∷ [])) in
    subst (λ (slots : SlotList). IsKept c.self.inside.limit c.self.inside.count c.self.inside.oldest slots) (sym (joins c))
    (kept_set c.self.inside.limit c.self.inside.count c.self.inside.oldest c.self.inside.slots s.before s.entry (with_packet c.args.packet s.entry) s.after
    c.in-Some.place s.whole s.place refl fits c.self.invariant)

pub returns-in-Some-clause-answer : goal.returns-in-Some-clause-answer
returns-in-Some-clause-answer c =
    subst (λ (w : WaitingEntries). Ok false ≡ answer_by (room_in (awaiting w.entries) w.limit c.args.packet.head.src c.args.packet.head.dst) c.args.packet) c.self.view_is
    (ap (λ (r : Room). answer_by r c.args.packet)
    (sym (room_there c.self.inside.slots.items c.args.packet.head.src c.args.packet.head.dst c.in-Some.place c.self.inside.limit c.has_room.result
    c.in-Some.ensures.stands c.has_room.ensures
    ∙ ap (λ (b : Bool). if b then Join else PacketsFull) c.if-has_room.true)))

pub returns-in-Some-clause-join : goal.returns-in-Some-clause-join
returns-in-Some-clause-join c _ =
    let is : List Unresolved → WaitingEntries = λ (es : List Unresolved). record { entries = es; limit = c.self.inside.limit } in
    subst (λ (w : WaitingEntries). is (somes c.join.new.self.items) ≡ with_entries w (map (joined c.args.packet) w.entries)) c.self.view_is
    (ap is (ap (λ (slots : SlotList). somes slots.items) (joins c)
    ∙ join_list c.args.packet c.self.inside.slots.items c.in-Some.place c.in-Some.ensures.stands))

pub returns-in-Some-clause-model : goal.returns-in-Some-clause-model
returns-in-Some-clause-model c =
    subst (λ (w : WaitingEntries). awaiting (somes c.join.new.self.items) ≡ park (awaiting w.entries) c.args.now (waiter_of c.args.packet)) c.self.view_is
    (ap (λ (slots : SlotList). awaiting (somes slots.items)) (joins c)
    ∙ join_model c.args.packet c.args.now c.self.inside.slots.items c.in-Some.place c.in-Some.ensures.stands)

pub returns-in-Some-2-clause-answer : goal.returns-in-Some-2-clause-answer
returns-in-Some-2-clause-answer c =
    subst (λ (w : WaitingEntries). answer_by PacketsFull c.args.packet
    ≡ answer_by (room_in (awaiting w.entries) w.limit c.args.packet.head.src c.args.packet.head.dst) c.args.packet) c.self.view_is
    (ap (λ (r : Room). answer_by r c.args.packet)
    (sym (room_there c.self.inside.slots.items c.args.packet.head.src c.args.packet.head.dst c.in-Some.place c.self.inside.limit c.has_room.result
    c.in-Some.ensures.stands c.has_room.ensures
    ∙ ap (λ (b : Bool). if b then Join else PacketsFull) c.if-has_room.false)))

pub returns-in-None-clause-answer : goal.returns-in-None-clause-answer
returns-in-None-clause-answer c =
    subst (λ (w : WaitingEntries). c.make.result ≡ answer_by (room_in (awaiting w.entries) w.limit c.args.packet.head.src c.args.packet.head.dst) c.args.packet) c.self.view_is
    (subst (λ (w : WaitingEntries). c.make.result ≡ answer_by (room_at (length w.entries) w.limit None) c.args.packet) (sym c.self.view_is) c.make.ensures.room
    ∙ ap (λ (r : Room). answer_by r c.args.packet)
    (sym (room_absent (somes c.self.inside.slots.items) c.args.packet.head.src c.args.packet.head.dst c.self.inside.limit c.in-None.ensures.none)))

pub returns-in-None-clause-model : goal.returns-in-None-clause-model
returns-in-None-clause-model c =
    let parks : awaiting (c.args.self.now.entries ++ entry_at c.args.now c.args.packet ∷ []) ≡ park (awaiting c.args.self.now.entries) c.args.now (waiter_of c.args.packet) =
    subst (λ (w : WaitingEntries). awaiting (w.entries ++ entry_at c.args.now c.args.packet ∷ []) ≡ park (awaiting w.entries) c.args.now (waiter_of c.args.packet)) c.self.view_is
    (sym (park_new c.args.packet c.args.now (somes c.self.inside.slots.items) c.in-None.ensures.none)) in
    on_ok_weaker c.make.result (λ new. ap (λ (w : WaitingEntries). awaiting w.entries) new ∙ parks) c.make.ensures.new
