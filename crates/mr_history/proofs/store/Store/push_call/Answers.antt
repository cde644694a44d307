use Rattle.std.proofs.Common.{refl}
use Rattle.mr_history.specs.Stores.{lists_of}
use Rattle.mr_history.proofs.Kept.{call_pushed}
use Rattle.mr_history.proofs.store.Store.push_call.Goals as goal

pub returns-clause-entries : goal.returns-clause-entries
returns-clause-entries c =
    rw (
      c.push_reserved-2.ensures.items,
      c.push_reserved.ensures.items,
      c.release_all.ensures.items,
      ← c.self.view_is,
    )
    (call_pushed (lists_of c.self.inside) c.self.inside.kept.items _ _ _ _ c.args.released.now
    c.self.invariant.within
    (rw c.as_slice.ensures.value refl) (rw c.as_slice-2.ensures.value refl) refl)
