use Rattle.std.proofs.Common.{◌≡◌, ◌∙◌, Some, None, List, map, ap, sym, position}
use Rattle.mr_plain_lists.specs.declared.known.Group.{Group}
use Rattle.mr_plain_lists.specs.Knowing.{awaiting}
use Rattle.mr_plain.proofs.Groups.{is_of, room_at, park_in, park_new}
use Rattle.mr_plain_lists.proofs.Places.{place_none}
use Rattle.mr_plain.proofs.taking.park.Goals as goal

pub joined-requires-clause-room : goal.joined-requires-clause-room
joined-requires-clause-room c =
    let value = c.as_slice.ensures.value in
    let found : position (is_of c.args.packet.flow.src c.args.packet.flow.dst) c.args.waiting.now.items ≡ Some c.in-Some.at = rw value at (sym c.place_of-place.ensures ∙ c.in-Some.is) in
    room_at (is_of c.args.packet.flow.src c.args.packet.flow.dst) c.args.waiting.now.items c.in-Some.at c.index.result.now c.requires.joins found c.index.ensures

pub returns-in-Some-clause-parked : goal.returns-in-Some-clause-parked
returns-in-Some-clause-parked c =
    let value = c.as_slice.ensures.value in
    let found : position (is_of c.args.packet.flow.src c.args.packet.flow.dst) c.args.waiting.now.items ≡ Some c.in-Some.at = rw value at (sym c.place_of-place.ensures ∙ c.in-Some.is) in
    park_in c.args.waiting.now.items c.args.moment c.args.packet c.in-Some.at c.index.result.now c.joined.result found c.index.ensures c.joined.ensures.packets

pub returns-in-None-clause-parked : goal.returns-in-None-clause-parked
returns-in-None-clause-parked c =
    let value = c.as_slice.ensures.value in
    let found : position (is_of c.args.packet.flow.src c.args.packet.flow.dst) c.args.waiting.now.items ≡ None = rw value at (sym c.place_of-place.ensures ∙ c.in-None.is) in
    ap (λ (ws : List Group). map awaiting ws) c.push_reserved.ensures.items
    ∙ park_new c.args.waiting.now.items c.args.moment c.args.packet c.group_with.result (place_none (is_of c.args.packet.flow.src c.args.packet.flow.dst) c.args.waiting.now.items found) c.group_with.ensures.packets
