use Rattle.std.proofs.Common.{refl}
use Rattle.mr_history.specs.Stores.{lists_of}
use Rattle.mr_history.proofs.Kept.{seen_at, settle_at}
use Rattle.mr_history.proofs.store.Store.entry.Goals as goal

pub returns-in-Settle-clause-seen : goal.returns-in-Settle-clause-seen
returns-in-Settle-clause-seen c =
    rw (← c.self.view_is)
    (settle_at (lists_of c.self.inside) c.self.inside.kept.items c.args.place c.index.result.now
    c.in-Settle.lane c.in-Settle.first c.in-Settle.count
    c.self.inside.records.items c.part-in-Settle.result.now c.new.result
    (rw (← c.self.view_is) at c.requires) c.index.ensures c.in-Settle.is refl
    (rw c.as_slice-in-Settle.ensures.value at c.part-in-Settle.ensures.items) c.new.ensures)

pub returns-in-Tick-clause-seen : goal.returns-in-Tick-clause-seen
returns-in-Tick-clause-seen c =
    rw (← c.self.view_is)
    (seen_at (lists_of c.self.inside) c.self.inside.kept.items c.args.place c.index.result.now _
    (rw (← c.self.view_is) at c.requires) c.index.ensures c.in-Tick.is)

pub returns-in-Recv-clause-seen : goal.returns-in-Recv-clause-seen
returns-in-Recv-clause-seen c =
    rw (← c.self.view_is)
    (seen_at (lists_of c.self.inside) c.self.inside.kept.items c.args.place c.index.result.now _
    (rw (← c.self.view_is) at c.requires) c.index.ensures c.in-Recv.is)

pub returns-in-EndPhase-clause-seen : goal.returns-in-EndPhase-clause-seen
returns-in-EndPhase-clause-seen c =
    rw (← c.self.view_is)
    (seen_at (lists_of c.self.inside) c.self.inside.kept.items c.args.place c.index.result.now _
    (rw (← c.self.view_is) at c.requires) c.index.ensures c.in-EndPhase.is)
