use Rattle.std.proofs.Common.{◌≡◌, false, None, Some, subst, sym, ◌∙◌}
use Rattle.std.proofs.lemmas.Bool.{and_from}
use Rattle.mr_unres.specs.Entries.{is_for}
use Rattle.mr_unres.specs.Slots.{SlotList, somes, entry_in, AllFail, StandsAt}
use Rattle.mr_unres.proofs.Places.{entry_there, finds, misses_none, misses_gap, misses_other, first_false, second_false}
use Rattle.mr_unres.proofs.slots.Slots.place_of.Goals.{else-eq-via-then-eq+else-eq-2, else-eq-via-else-eq}
use Rattle.mr_unres.proofs.slots.Slots.place_of.Goals as goal

pub returns-in_err-place-clause-none : goal.returns-in_err-place-clause-none
returns-in_err-place-clause-none c = rw c.from_residual.ensures
    (subst (λ (s : SlotList). AllFail (is_for c.args.src c.args.dst) (somes s.items)) c.self.view_is
    (misses_none c.self.inside.entries.items c.self.inside.index c.args.src c.args.dst c.self.invariant.leads c.in_err-place.ensures.value))

pub returns-in_err-entry-clause-none : goal.returns-in_err-entry-clause-none
returns-in_err-entry-clause-none c = rw c.from_residual-in_err-entry.ensures
    (subst (λ (s : SlotList). AllFail (is_for c.args.src c.args.dst) (somes s.items)) c.self.view_is
    (misses_gap c.self.inside.entries.items c.self.inside.index c.args.src c.args.dst c.self.invariant.leads
    c.in_ok-place.field-0.now c.in_ok-place.ensures.value (subst (λ (s : SlotList). None ≡ entry_in s.items c.in_ok-place.field-0.now) (sym c.self.view_is) c.in_err-entry.ensures)))

pub returns-then-eq-2-clause-stands : goal.returns-then-eq-2-clause-stands
returns-then-eq-2-clause-stands c =
    subst (λ (s : SlotList). StandsAt (is_for c.args.src c.args.dst) s.items c.in_ok-place.field-0.now) c.self.view_is
    (finds c.self.inside.entries.items c.self.inside.index c.args.src c.args.dst c.self.invariant.leads
    c.in_ok-place.field-0.now c.in_ok-entry.entry.now (sym c.in_ok-place.ensures.value)
    (entry_there c.self.inside.entries.items c.in_ok-place.field-0.now c.in_ok-entry.entry.now (subst (λ (s : SlotList). entry_in s.items c.in_ok-place.field-0.now ≡ Some c.in_ok-entry.entry.now) (sym c.self.view_is) (sym c.in_ok-entry.ensures)))
    (and_from _ _ (sym c.if-eq.ensures) (sym c.if-eq-2.ensures)))

pub returns-clause-none : goal.returns-clause-none
returns-clause-none c =
    let other : is_for c.args.src c.args.dst c.in_ok-entry.entry.now ≡ false = elim c.else-eq.branch [
      | else-eq-via-then-eq+else-eq-2 w ↦ second_false _ _ (sym w.eq-then-eq.ensures ∙ w.if-eq-2.false)
      | else-eq-via-else-eq w ↦ first_false _ _ (sym c.eq.ensures ∙ w.if-eq.false)
    ] in
    subst (λ (s : SlotList). AllFail (is_for c.args.src c.args.dst) (somes s.items)) c.self.view_is
    (misses_other c.self.inside.entries.items c.self.inside.index c.args.src c.args.dst c.self.invariant.leads
    c.in_ok-place.field-0.now c.in_ok-entry.entry.now c.in_ok-place.ensures.value (subst (λ (s : SlotList). Some c.in_ok-entry.entry.now ≡ entry_in s.items c.in_ok-place.field-0.now) (sym c.self.view_is) c.in_ok-entry.ensures) other)
