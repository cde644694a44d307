use Rattle.std.proofs.Common.{◌≡◌, drop}
use Rattle.mr_base.specs.MemStores.{bytes_of}
use Rattle.mr_base.proofs.mem_store.MemStore.bytes.Given as goal

abbrev pub invariant-loop-file : goal.invariant-loop-file
invariant-loop-file l = bytes_of (drop l.file-index l.files) l.name ≡ bytes_of l.files l.name
