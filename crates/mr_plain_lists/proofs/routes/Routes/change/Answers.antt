use Rattle.std.proofs.Common.{◌∙◌, sym, ap}
use Rattle.mr_model.specs.RouteList.{changed_to}
use Rattle.mr_plain_lists.specs.declared.slots.Slot.{Slot}
use Rattle.mr_plain_lists.specs.Indexed.{IsNewest, NoneOf}
use Rattle.mr_plain_lists.proofs.Editing.{changed_at, changed_none, changed_count}
use Rattle.mr_plain_lists.proofs.Fading.{fades_set, indexed_fade}
use Rattle.mr_plain_lists.proofs.routes.Routes.change.Goals as goal

pub invariant_of-self : goal.invariant_of-self
invariant_of-self c =
    let is : IsNewest c.args.target c.self.inside.slots.items c.in-Some.at = rw c.as_slice.ensures.value at c.in-Some.ensures.some in
    let value = c.index_mut.ensures.value in
    indexed_fade _ _ _ _ _
    (fades_set c.self.inside.slots.items c.in-Some.at c.index_mut.result.now _ (record {
      older = ap (λ (x : Slot). x.older) value;
      src = ap (λ (x : Slot). x.route.src) value;
      dst = ap (λ (x : Slot). x.route.dst) value;
      live = λ live. sym (ap (λ (x : Slot). x.live) value) ∙ live;
    }))
    c.self.invariant
    (c.self.invariant.counted ∙ changed_count c.args.target (changed_to c.args.parent c.args.ttls c.args.fixed) c.self.inside.slots.items c.in-Some.at c.index_mut.result.now _ is
    (ap (λ (x : Slot). x.live) value) (ap (λ (x : Slot). changed_to c.args.parent c.args.ttls c.args.fixed x.route) value))

pub returns-in-Some : goal.returns-in-Some
returns-in-Some c =
    let is : IsNewest c.args.target c.self.inside.slots.items c.in-Some.at = rw c.as_slice.ensures.value at c.in-Some.ensures.some in
    let value = c.index_mut.ensures.value in
    rw (← c.self.view_is) (changed_at c.args.target (changed_to c.args.parent c.args.ttls c.args.fixed) c.self.inside.slots.items c.in-Some.at c.index_mut.result.now _ is
    (ap (λ (x : Slot). x.live) value) (ap (λ (x : Slot). changed_to c.args.parent c.args.ttls c.args.fixed x.route) value))

pub returns-in_default : goal.returns-in_default
returns-in_default c =
    let none : NoneOf c.args.target c.self.inside.slots.items = rw c.as_slice.ensures.value at c.in_default.ensures.none in
    rw (← c.self.view_is) (changed_none c.args.target (changed_to c.args.parent c.args.ttls c.args.fixed) c.self.inside.slots.items none)
