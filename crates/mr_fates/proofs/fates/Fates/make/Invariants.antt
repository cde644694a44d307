use Rattle.std.proofs.Common.{◌≡◌, [], sum, map, take}
use Rattle.std.specs.List.{AllByRecursion}
use Rattle.mr_fates.proofs.fates.Fates.make.Given as goal

abbrev pub invariant-loop-room : goal.invariant-loop-room
invariant-loop-room l =
    (l.total ≡ sum (take l.room-index l.packets))
    × (map (λ lane. lane.room) l.lanes.items ≡ take l.room-index l.packets)
    × AllByRecursion (λ lane. lane.places ≡ []) l.lanes.items
