use Rattle.std.proofs.Common.{◌≡◌, Bool, sym, ap, ◌∙◌, subst}
use Rattle.std.proofs.lemmas.Bool.{lt-ltb, le-ltb}
use Rattle.std.specs.Prelude.{if◌then◌else◌}
use Rattle.mr_unres.specs.declared.room.Room.TheVariants.{PacketsFull, Join, EntriesFull, New}
use Rattle.mr_unres.specs.Entries.{WaitingEntries, awaiting, room_in}
use Rattle.mr_unres.specs.Slots.{somes}
use Rattle.mr_unres.proofs.Listed.{room_there, room_none}
use Rattle.mr_unres.proofs.waiting.Waiting.room.Goals as goal

pub returns-in-Some : goal.returns-in-Some
returns-in-Some c =
    subst (λ (w : WaitingEntries). Join ≡ room_in (awaiting w.entries) w.limit c.args.src c.args.dst) c.self.view_is
    (sym (room_there c.self.inside.slots.items c.args.src c.args.dst c.in-Some.place c.self.inside.limit c.has_room.result c.in-Some.ensures.stands c.has_room.ensures
    ∙ ap (λ (b : Bool). if b then Join else PacketsFull) c.if-has_room.true))

pub returns-in-Some-2 : goal.returns-in-Some-2
returns-in-Some-2 c =
    subst (λ (w : WaitingEntries). PacketsFull ≡ room_in (awaiting w.entries) w.limit c.args.src c.args.dst) c.self.view_is
    (sym (room_there c.self.inside.slots.items c.args.src c.args.dst c.in-Some.place c.self.inside.limit c.has_room.result c.in-Some.ensures.stands c.has_room.ensures
    ∙ ap (λ (b : Bool). if b then Join else PacketsFull) c.if-has_room.false))

pub returns-in-None : goal.returns-in-None
returns-in-None c =
    subst (λ (w : WaitingEntries). New ≡ room_in (awaiting w.entries) w.limit c.args.src c.args.dst) c.self.view_is
    (sym (room_none (somes c.self.inside.slots.items) c.args.src c.args.dst c.self.inside.limit c.self.inside.count c.self.invariant.counted c.in-None.ensures.none
    ∙ ap (λ (b : Bool). if b then New else EntriesFull) (lt-ltb c.self.inside.count c.self.inside.limit c.if-self.true)))

pub returns-in-None-2 : goal.returns-in-None-2
returns-in-None-2 c =
    subst (λ (w : WaitingEntries). EntriesFull ≡ room_in (awaiting w.entries) w.limit c.args.src c.args.dst) c.self.view_is
    (sym (room_none (somes c.self.inside.slots.items) c.args.src c.args.dst c.self.inside.limit c.self.inside.count c.self.invariant.counted c.in-None.ensures.none
    ∙ ap (λ (b : Bool). if b then New else EntriesFull) (le-ltb c.self.inside.count c.self.inside.limit c.if-self.false)))
