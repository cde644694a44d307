use Rattle.std.proofs.Common.{◌≡◌, ◌+◌, ◌<◌, ◌^◌, length, filter}
use Rattle.mr_unres.specs.Entries.{is_young, packet_count}
use Rattle.mr_unres.proofs.waiting.Waiting.expire.Given as goal

abbrev pub invariant-loop-entry : goal.invariant-loop-entry
invariant-loop-entry l =
    (filter (is_young l.now) l.self.entries ≡ filter (is_young l.now) l.fn.self.entries)
    × (l.self.limit ≡ l.fn.self.limit)
    × (l.dropped + packet_count l.self.entries ≡ packet_count l.fn.self.entries)
    × (packet_count l.fn.self.entries < 2 ^ 32)

abbrev pub decreases-loop-entry : goal.decreases-loop-entry
decreases-loop-entry l = length l.self.entries
