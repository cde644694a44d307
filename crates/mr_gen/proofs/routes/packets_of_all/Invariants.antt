use Rattle.std.proofs.Common.{◌≡◌, ◌-◌, ◌++◌, map}
use Rattle.mr_gen.specs.Entries.{packet_of}
use Rattle.mr_load.specs.Callers.{from_on}
use Rattle.mr_gen.proofs.routes.packets_of_all.Given as goal

abbrev pub invariant-loop-entry : goal.invariant-loop-entry
invariant-loop-entry l = l.all.items ++ map packet_of (from_on l.entry (64 - l.entry)) ≡ map packet_of (from_on 0 64)
