use Rattle.std.proofs.Common.{◌≡◌, ◌+◌, ◌<◌, ◌∷◌, [], Some, List, ◌∙◌, length, sym, subst, ap, arith}
use Rattle.std.proofs.lemmas.List.{length-append}
use Rattle.mr_unres.specs.Entries.{is_for}
use Rattle.mr_unres.specs.Slots.{SlotList, somes, AllFail, Leads}
use Rattle.mr_unres.proofs.Places.{Slot, leads_push}
use Rattle.mr_unres.proofs.slots.Slots.push.Goals as goal

pub invariant_of-self : goal.invariant_of-self
invariant_of-self c =
    let items : List Slot = c.self.inside.entries.items in
    let none : AllFail (is_for c.args.entry.src c.args.entry.dst) (somes items) =
    subst (λ (s : SlotList). AllFail (is_for c.args.entry.src c.args.entry.dst) (somes s.items)) (sym c.self.view_is) c.requires.new in
    let room : length items < c.self.inside.capacity =
    subst (λ (s : SlotList). length s.items < s.capacity) (sym c.self.view_is) c.requires.room in
    let long : length c.push.new.self.items ≡ length items + 1 =
    ap length c.in-Ok.ensures.items ∙ length-append items (Some c.args.entry ∷ []) in
    record {
      leads = subst (λ (xs : List Slot). Leads (length xs) xs c.lead.new.index) (sym c.in-Ok.ensures.items)
          (leads_push items c.self.inside.index c.lead.new.index c.args.entry c.self.invariant.leads none
          (rw (← c.as_slice-place.ensures.value) c.lead.ensures.leads) c.lead.ensures.others _);
      within = omega arith;
      has_room = omega arith;
      whole = omega arith;
      has_spare = omega arith;
    }
