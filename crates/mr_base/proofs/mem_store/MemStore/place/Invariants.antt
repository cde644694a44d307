use Rattle.std.proofs.Common.{◌≡◌, drop}
use Rattle.mr_base.specs.MemStores.{bytes_of}
use Rattle.mr_base.proofs.mem_store.MemStore.place.Given as goal

abbrev pub invariant-loop-i : goal.invariant-loop-i
invariant-loop-i l = bytes_of (drop l.i l.files) l.name ≡ bytes_of l.files l.name
