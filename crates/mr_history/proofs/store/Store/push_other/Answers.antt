use Rattle.std.proofs.Common.{refl, rules}
use Rattle.mr_history.specs.Stores.{lists_of}
use Rattle.mr_history.proofs.Kept.{slow_pushed, slow_within}
use Rattle.mr_history.proofs.store.Store.push_other.Goals as goal

pub invariant_of-self : goal.invariant_of-self
invariant_of-self c =
    let v = c.self.invariant in
    record {
      within = rw (c.push_reserved-2.ensures.items, c.push_reserved.ensures.items)
          (slow_within (lists_of c.self.inside) c.self.inside.kept.items _ c.args.slow v.within
          (rw c.as_slice.ensures.value refl));
      entries = search rules;
      most_entries = search rules;
      records = v.records;
      most_records = v.most_records;
      slows = search rules;
      most_slows = search rules;
      calls = v.calls;
      most_calls = v.most_calls;
      released = v.released;
      most_released = v.most_released;
    }

pub returns-clause-entries : goal.returns-clause-entries
returns-clause-entries c =
    rw (c.push_reserved-2.ensures.items, c.push_reserved.ensures.items, ← c.self.view_is)
    (slow_pushed (lists_of c.self.inside) c.self.inside.kept.items _ c.args.slow
    c.self.invariant.within (rw c.as_slice.ensures.value refl))
