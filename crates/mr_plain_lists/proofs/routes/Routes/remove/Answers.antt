use Rattle.std.proofs.Common.{◌≡◌, ◌+◌, ◌-◌, ◌≤◌, ℕ, refl, sym, ap, false, arith}
use Rattle.mr_plain_lists.specs.declared.slots.Slot.{Slot}
use Rattle.mr_plain_lists.specs.Indexed.{IsNewest, NoneOf}
use Rattle.mr_plain_lists.proofs.Steps.{true_false}
use Rattle.mr_plain_lists.proofs.Editing.{removed_at, removed_none, removed_count}
use Rattle.mr_plain_lists.proofs.Fading.{fades_set, indexed_fade}
use Rattle.mr_plain_lists.proofs.routes.Routes.remove.Goals as goal

some : (count n m : ℕ) → count ≡ n → n ≡ m + 1 → 1 ≤ count
some count n m is more = omega (arith, is, more)

less : (count n m : ℕ) → count ≡ n → n ≡ m + 1 → count - 1 ≡ m
less count n m is more = omega (arith, is, more)

pub overflow_sub-self : goal.overflow_sub-self
overflow_sub-self c =
    let is : IsNewest c.args.target c.self.inside.slots.items c.in-Some.at = rw c.as_slice.ensures.value at c.in-Some.ensures.some in
    let gone : Slot = record { route = c.index_mut.result.now.route; live = false; older = c.index_mut.result.now.older } in
    some _ _ _ c.self.invariant.counted (removed_count c.args.target c.self.inside.slots.items c.in-Some.at c.index_mut.result.now gone is refl)

pub invariant_of-self : goal.invariant_of-self
invariant_of-self c =
    let is : IsNewest c.args.target c.self.inside.slots.items c.in-Some.at = rw c.as_slice.ensures.value at c.in-Some.ensures.some in
    let gone : Slot = record { route = c.index_mut.result.now.route; live = false; older = c.index_mut.result.now.older } in
    let value = c.index_mut.ensures.value in
    indexed_fade _ _ _ _ _
    (fades_set c.self.inside.slots.items c.in-Some.at c.index_mut.result.now gone (record {
      older = ap (λ (x : Slot). x.older) value;
      src = ap (λ (x : Slot). x.route.src) value;
      dst = ap (λ (x : Slot). x.route.dst) value;
      live = λ live. absurd (true_false (sym live));
    }))
    c.self.invariant
    (less _ _ _ c.self.invariant.counted (removed_count c.args.target c.self.inside.slots.items c.in-Some.at c.index_mut.result.now gone is refl))

pub returns-in-Some : goal.returns-in-Some
returns-in-Some c =
    let is : IsNewest c.args.target c.self.inside.slots.items c.in-Some.at = rw c.as_slice.ensures.value at c.in-Some.ensures.some in
    rw (← c.self.view_is) (removed_at c.args.target c.self.inside.slots.items c.in-Some.at c.index_mut.result.now _ is refl)

pub returns-in_default : goal.returns-in_default
returns-in_default c =
    let none : NoneOf c.args.target c.self.inside.slots.items = rw c.as_slice.ensures.value at c.in_default.ensures.none in
    rw (← c.self.view_is) (removed_none c.args.target c.self.inside.slots.items none)
