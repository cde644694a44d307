use Rattle.std.proofs.Common.{◌≡◌, refl, ◌+◌, length, arith}
use Rattle.std.proofs.lemmas.List.{length-map, length-append}
use Rattle.mr_history.specs.Stores.{lists_of}
use Rattle.mr_history.proofs.Kept.{settle_pushed, kept_length}
use Rattle.mr_history.proofs.store.Store.push_settle.Goals as goal

pub returns-clause-entries : goal.returns-clause-entries
returns-clause-entries c =
    rw (c.push_reserved.ensures.items, c.keep_all.ensures.items, ← c.self.view_is)
    (settle_pushed (lists_of c.self.inside) c.self.inside.kept.items c.args.lane _ _
    c.args.records.now c.self.invariant.within
    (rw (c.as_slice.ensures.value, length-map) refl) refl)

pub returns-clause-room : goal.returns-clause-room
returns-clause-room c =
    let more : length c.keep_all.new.kept.items
    ≡ length c.self.inside.records.items + length c.args.records.now =
    kept_length _ _ _ c.keep_all.ensures.items in
    rw (
      ← c.self.view_is,
      c.push_reserved.ensures.items,
      c.push_reserved.ensures.capacity,
      c.keep_all.ensures.capacity,
      length-append,
      more,
    )
    record {
      entries_left = omega arith;
      packets_left = omega arith;
      calls_left = omega arith;
      released_left = omega arith;
    }
