use Rattle.std.proofs.Common.{◌≡◌, drop, map}
use Rattle.mr_fates.specs.After.{released_each}
use Rattle.mr_kernel.specs.Flows.{id_of}
use Rattle.mr_kernel.proofs.granting.end_released.Given as goal

abbrev pub invariant-loop-one : goal.invariant-loop-one
invariant-loop-one l =
    (released_each l.number (map id_of (drop l.one-index l.freed)) l.fates.lines
    ≡ released_each l.fn.number (map id_of l.fn.freed) l.fn.fates.lines)
    × (l.fates.packets ≡ l.fn.fates.packets)
