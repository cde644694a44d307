use Rattle.std.proofs.Common.{◌≡◌, ◌≤◌, ◌∙◌, ap, sym, length, subst}
use Rattle.mr_model.specs.Past.{own_before_slow, last_end}
use Rattle.mr_router.proofs.Places.{own_before_slow_within, last_end_within}
use Rattle.mr_router.proofs.machine.Machine.slow.Goals as goal

pub slow-outcome-requires-clause-look_own : goal.slow-outcome-requires-clause-look_own
slow-outcome-requires-clause-look_own g c =
    let h = c.deref_mut-kernel.result.now.history in
    subst (λ n. own_before_slow c.args.lane h ≤ n) (sym (c.len-look.ensures ∙ ap length c.journal-2.ensures.entries)) (own_before_slow_within c.args.lane h)

pub slow-outcome-requires-clause-look_end : goal.slow-outcome-requires-clause-look_end
slow-outcome-requires-clause-look_end g c =
    let h = c.deref_mut-kernel.result.now.history in
    subst (λ n. last_end h ≤ n) (sym (c.len-look.ensures ∙ ap length c.journal-2.ensures.entries)) (last_end_within h)
