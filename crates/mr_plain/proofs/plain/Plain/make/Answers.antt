use Rattle.std.proofs.Common.{◌≡◌, map, rules}
use Rattle.mr_plain.specs.Pasts.{fresh_lane}
use Rattle.mr_plain.proofs.Keeping.{begins}
use Rattle.mr_plain.proofs.plain.Plain.make.Goals as goal

pub invariant_of-result : goal.invariant_of-result
invariant_of-result c =
    let same : c.in_ok-kept.kept ≡ c.args.limits.now = search rules in
    let controls : c.in_ok-past.past.controls_left ≡ c.args.limits.now.controls = rw (← c.limits.view_is) c.in_ok-past.ensures.controls in
    let phases : c.in_ok-past.past.phases_left ≡ c.args.limits.now.phases = rw (← c.limits.view_is) c.in_ok-past.ensures.phases in
    let lanes : c.in_ok-past.past.lanes.items ≡ map fresh_lane c.args.limits.now.packets = rw (← c.limits.view_is) (rw c.as_slice-packets.ensures.value at c.in_ok-past.ensures.lanes) in
    rw (same, c.new-4.ensures, c.new-2.ensures.items, c.new-3.ensures.items)
    (begins c.args.limits.now c.new-known.result c.in_ok-past.past c.requires c.new-known.ensures controls phases lanes)
