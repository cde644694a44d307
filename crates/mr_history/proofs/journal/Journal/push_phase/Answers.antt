use Rattle.std.proofs.Common.{refl, arith, ◌≤◌, ◌-◌}
use Rattle.mr_model.specs.declared.entry.Entry.TheVariants.{EndPhase}
use Rattle.mr_history.proofs.Journaling.{left_phase, space_push, counted_none}
use Rattle.mr_history.proofs.journal.Journal.push_phase.Goals as goal

pub invariant_of-self : goal.invariant_of-self
invariant_of-self c =
    let v = c.self.invariant in
    let h = c.self.inside.store.entries in
    let some : 1 ≤ c.self.inside.phases_left =
    omega (arith, v.left.phases_are, rw (← c.self.view_is) at c.requires) in
    record {
      limits = v.limits;
      left = rw c.push_phase.ensures.entries
          (left_phase c.self.inside.limits h EndPhase _ _ _ v.left refl refl (λ lane. refl) some);
      space = rw c.push_phase.ensures.entries
          (space_push h EndPhase _ _ _ _ c.self.inside.controls_left
          (c.self.inside.phases_left - 1) 0 1 0 0 0 0 c.self.inside.packets_left.items
          c.self.inside.packets_left.items
          v.space c.push_phase.ensures.room (omega arith) (omega (arith, some)) (omega arith)
          (omega arith) (omega arith) (omega arith) (omega arith) (omega arith));
      counted = rw c.push_phase.ensures.entries
          (counted_none c.self.inside.limits h EndPhase c.self.inside.totals refl v.counted);
    }
