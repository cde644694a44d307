use Rattle.std.proofs.Common.{◌+◌, ◌≤◌}
use Rattle.std.specs.HashMap.{hash_map_len, spare}
use Rattle.mr_unres.specs.Slots.{Leads}
use Rattle.mr_unres.proofs.slots.lead_all.Given as goal

abbrev pub invariant-loop-i : goal.invariant-loop-i
invariant-loop-i l =
    Leads l.i l.entries l.index
    × (hash_map_len l.fn.index + spare l.fn.index ≤ hash_map_len l.index + spare l.index)
    × (spare l.fn.index ≤ l.i + spare l.index)
