use Rattle.std.proofs.Common.{◌≡◌, ap, arith, length}
use Rattle.mr_kernel_rows.specs.Ready.{lane_1}
use Rattle.mr_kernel_rows.proofs.Bounds.{before_slow_within, end_within}
use Rattle.mr_kernel_rows.proofs.one_lane.OneLane.packet.Goals as goal

pub slow-outcome-requires-clause-look_own : goal.slow-outcome-requires-clause-look_own
slow-outcome-requires-clause-look_own c =
    let h = c.self.inside.kernel.history in
    let count = ap (λ h. length h) c.journal-journal.ensures.entries in
    omega (arith, c.len-look.ensures, count, before_slow_within lane_1 h)

pub slow-outcome-requires-clause-look_end : goal.slow-outcome-requires-clause-look_end
slow-outcome-requires-clause-look_end c =
    let h = c.self.inside.kernel.history in
    let count = ap (λ h. length h) c.journal-journal.ensures.entries in
    omega (arith, c.len-look.ensures, count, end_within h)
