use Rattle.std.proofs.Common.{refl, arith, ◌≤◌, ◌-◌}
use Rattle.mr_model.specs.declared.entry.Entry.TheVariants.{Recv}
use Rattle.mr_history.proofs.Journaling.{left_control, space_push, counted_none}
use Rattle.mr_history.proofs.journal.Journal.push_recv.Goals as goal

pub invariant_of-self : goal.invariant_of-self
invariant_of-self c =
    let v = c.self.invariant in
    let e = Recv c.args.daemon c.args.message in
    let h = c.self.inside.store.entries in
    let some : 1 ≤ c.self.inside.controls_left =
    omega (arith, v.left.controls_are, rw (← c.self.view_is) at c.requires) in
    record {
      limits = v.limits;
      left = rw c.push_recv.ensures.entries
          (left_control c.self.inside.limits h e _ _ _ v.left refl refl (λ lane. refl) some);
      space = rw c.push_recv.ensures.entries
          (space_push h e _ _ _ _ (c.self.inside.controls_left - 1) c.self.inside.phases_left 1 0
          0 0 0 0 c.self.inside.packets_left.items c.self.inside.packets_left.items
          v.space c.push_recv.ensures.room (omega (arith, some)) (omega arith) (omega arith)
          (omega arith) (omega arith) (omega arith) (omega arith) (omega arith));
      counted = rw c.push_recv.ensures.entries
          (counted_none c.self.inside.limits h e c.self.inside.totals refl v.counted);
    }
