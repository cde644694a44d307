use Rattle.std.proofs.Common.{◌∙◌, ◌∷◌, ◌+◌, [], refl, sym, ap, true, length, arith}
use Rattle.mr_plain_lists.specs.declared.slots.Slot.{Slot}
use Rattle.mr_plain_lists.specs.Indexed.{Leads}
use Rattle.mr_plain_lists.proofs.Walking.{newest_append}
use Rattle.mr_plain_lists.proofs.Fading.{indexed_push, few_live}
use Rattle.mr_plain_lists.proofs.routes.Routes.add.Goals as goal

pub overflow_add-self : goal.overflow_add-self
overflow_add-self c = omega (arith, c.self.invariant.counted, few_live c.self.inside.slots.items, c.self.inside.slots.ok, c.self.inside.slots.small)

pub invariant_of-self : goal.invariant_of-self
invariant_of-self c =
    let s : Slot = record { route = c.args.route; live = true; older = c.past_gone-older.result } in
    let value = c.as_slice.ensures.value in
    let newest : Leads c.self.inside.slots.items c.reach_of-newest.result (length c.self.inside.slots.items) c.args.route.src c.args.route.dst =
    rw c.reach_of-newest.ensures (c.self.invariant.newest c.args.route.src c.args.route.dst) in
    let past = rw value at c.past_gone-older.ensures in
    let places = ap length (sym c.push_reserved.ensures.items) in
    rw c.push_reserved.ensures.items
    (indexed_push c.self.inside.slots.items s c.self.inside.index c.lead.new.index c.self.inside.count (c.self.inside.count + 1) (length c.as_slice-places.result.now)
    c.self.invariant (past c.args.route.src c.args.route.dst newest) refl refl (ap length (c.as_slice-places.ensures.value ∙ c.push_reserved.ensures.items)) c.lead.ensures)

pub returns : goal.returns
returns c =
    let s : Slot = record { route = c.args.route; live = true; older = c.past_gone-older.result } in
    rw (← c.self.view_is, c.push_reserved.ensures.items) (newest_append c.self.inside.slots.items (s ∷ []))
