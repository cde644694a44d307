use Rattle.std.proofs.Common.{◌≡◌, ◌+◌, ◌*◌, ◌<◌, ◌≤◌, [], ◌∷◌, ◌++◌, Some, List, length, sym, ap, ◌∙◌, subst, arith}
use Rattle.mr_unres.specs.declared.unresolved.Unresolved.{Unresolved}
use Rattle.mr_unres.specs.Entries.{WaitingEntries, NoneAfter, awaiting, entry_at}
use Rattle.mr_unres.specs.Slots.{SlotList, somes, with_slots}
use Rattle.mr_unres.specs.Keeping.{IsKept, IsRising, AreFew}
use Rattle.mr_unres.proofs.Kept.{kept_push}
use Rattle.mr_unres.proofs.Listed.{somes_append}
use Rattle.mr_unres.proofs.waiting.Waiting.make.Goals as goal

pushed : (c : goal.After-self-1) → c.push.new.self ≡ with_slots c.make_place.new.slots (c.make_place.new.slots.items ++ Some (entry_at c.args.now c.args.packet) ∷ [])
pushed c = c.push.ensures
    ∙ ap (λ (e : Unresolved). with_slots c.make_place.new.slots (c.make_place.new.slots.items ++ Some e ∷ [])) c.new.ensures

pub invariant_of-self : goal.invariant_of-self
invariant_of-self c =
    let same = c.make_place.ensures.same in
    let counted : c.self.inside.count ≡ length (somes c.make_place.new.slots.items) = c.self.invariant.counted ∙ ap length (sym same) in
    let below : c.self.inside.count < c.self.inside.limit = omega (arith, c.self.invariant.within, c.if-self.false) in
    let room : 2 * c.self.inside.limit ≤ c.make_place.new.slots.capacity = omega (arith, c.self.invariant.room, c.make_place.ensures.capacity) in
    let rising : IsRising (somes c.make_place.new.slots.items) = subst (λ (es : List Unresolved). IsRising es) (sym same) c.self.invariant.rising in
    let few : AreFew (somes c.make_place.new.slots.items) = subst (λ (es : List Unresolved). AreFew es) (sym same) c.self.invariant.few in
    let later : NoneAfter c.args.now (awaiting (somes c.make_place.new.slots.items)) =
    subst (λ (es : List Unresolved). NoneAfter c.args.now (awaiting es)) (sym same)
    (subst (λ (w : WaitingEntries). NoneAfter c.args.now (awaiting w.entries)) (sym c.self.view_is) c.requires.later) in
    subst (λ (slots : SlotList). IsKept c.self.inside.limit (c.self.inside.count + 1) c.make_place.new.oldest slots) (sym (pushed c))
    (kept_push c.self.inside.limit c.self.inside.count c.make_place.new.oldest c.make_place.new.slots (entry_at c.args.now c.args.packet)
    below c.self.invariant.bounded room counted c.make_place.ensures.inside c.make_place.ensures.gone rising few later (omega arith))

pub returns-clause-new : goal.returns-clause-new
returns-clause-new c =
    let e : Unresolved = entry_at c.args.now c.args.packet in
    let list : somes c.push.new.self.items ≡ somes c.self.inside.slots.items ++ e ∷ [] =
    ap (λ (slots : SlotList). somes slots.items) (pushed c)
    ∙ somes_append c.make_place.new.slots.items (Some e ∷ [])
    ∙ ap (λ (es : List Unresolved). es ++ e ∷ []) c.make_place.ensures.same in
    let is : List Unresolved → WaitingEntries = λ (es : List Unresolved). record { entries = es; limit = c.self.inside.limit } in
    subst (λ (w : WaitingEntries). is (somes c.push.new.self.items) ≡ record w { entries = w.entries ++ e ∷ [] }) c.self.view_is (ap is list)
