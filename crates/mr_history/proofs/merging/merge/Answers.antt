use Rattle.std.proofs.Common.{◌≡◌, ◌≤◌, length, arith}
use Rattle.mr_history.specs.Seen.{entry_seen}
use Rattle.mr_history.proofs.Interleaving.{merge_more, merge_last, same_on}
use Rattle.mr_history.proofs.merging.merge.Goals as goal

pub loop-place-preserved : goal.loop-place-preserved
loop-place-preserved c =
    let v = c.loop-place.invariant in
    let s = c.in_ok-rest.ensures in
    record {
      steps = rw (c.in_ok-push.ensures.items, s.steps, c.in_ok-copy_of.ensures)
          (merge_more c.args.store.now.entries c.loop-place.place
          (entry_seen c.entry.result) c.loop-place.steps.items c.loop-place.rest.now
          c.entry.ensures.seen v.steps v.same);
      sorted = s.sorted;
      from = s.from;
      same = same_on c.loop-place.place _ _ _ s.same v.same;
    }

pub returns : goal.returns
returns c =
    let v = c.loop-place.invariant in
    let last : c.len.result ≡ c.loop-place.place =
    omega (arith, c.len.ensures, c.len-place-end.ensures) in
    let past : length c.args.store.now.entries ≤ c.loop-place.place =
    omega (arith, c.len.ensures, last) in
    rw (c.in_ok-push_seen.ensures.steps, last)
    (merge_last c.args.store.now.entries c.loop-place.place c.loop-place.steps.items
    c.loop-place.rest.now past v.steps v.same)
