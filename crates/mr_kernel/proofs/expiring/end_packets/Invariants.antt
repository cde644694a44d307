use Rattle.std.proofs.Common.{◌≡◌, drop, map}
use Rattle.mr_fates.specs.After.{ended_each}
use Rattle.mr_unres.specs.Entries.{waiter_of}
use Rattle.mr_kernel.proofs.expiring.end_packets.Given as goal

abbrev pub invariant-loop-packet : goal.invariant-loop-packet
invariant-loop-packet l =
    (ended_each l.fate (map waiter_of (drop l.packet-index l.packets)) l.fates.lines
    ≡ ended_each l.fn.fate (map waiter_of l.fn.packets) l.fn.fates.lines)
    × (l.fates.packets ≡ l.fn.fates.packets)
