use Rattle.mr_load.proofs.Loads.{fault_at, memory_at}
use Rattle.mr_load.proofs.loading.load.Goals as goal

pub returns-in-Err-Failed-clause-loads : goal.returns-in-Err-Failed-clause-loads
returns-in-Err-Failed-clause-loads g c =
    fault_at (g.S.Store.told c.args.store.now) c.args.file.now c.new.result (g.S.Store.calls c.args.store.now) (g.S.Store.calls c.read.new.self) c.new.ensures (rw c.in-Err-Failed.field-0-is at c.in-Err-Failed.ensures.called)

pub returns-in-Err-Memory-clause-loads : goal.returns-in-Err-Memory-clause-loads
returns-in-Err-Memory-clause-loads g c =
    memory_at (g.S.Store.told c.args.store.now) c.args.file.now (g.S.Store.calls c.args.store.now) (g.S.Store.calls c.read.new.self) (rw c.in-Err-Memory.field-0-is at c.in-Err-Memory.ensures.called)
