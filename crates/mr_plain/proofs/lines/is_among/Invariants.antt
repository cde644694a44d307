use Rattle.std.proofs.Common.{◌≡◌, ◌==◌, ◌&&◌, map, drop}
use Rattle.std.specs.List.{list_any}
use Rattle.mr_model.specs.WaitingList.{Waiter}
use Rattle.mr_plain_lists.specs.Knowing.{waiter}
use Rattle.mr_plain.proofs.lines.is_among.Given as goal

abbrev pub invariant-loop-w : goal.invariant-loop-w
invariant-loop-w l = list_any (λ (w : Waiter). w.lane.0 == l.lane.0 && w.index == l.index) (map waiter (drop l.w-index l.packets))
    ≡ list_any (λ (w : Waiter). w.lane.0 == l.lane.0 && w.index == l.index) (map waiter l.packets)
