use Rattle.std.proofs.Common.{◌∙◌, ◌++◌, ap}
use Rattle.mr_egress.specs.Copies.{copies_freed}
use Rattle.mr_egress.proofs.CopiesWritten.{records_flat}
use Rattle.mr_egress.proofs.tracing.write_entry.Goals as goal

pub returns-in_ok-write_released-in-Call : goal.returns-in_ok-write_released-in-Call
returns-in_ok-write_released-in-Call c =
    rw c.in-Call.is (c.in_ok-write_released-in-Call.ensures ∙ ap (λ bs. c.args.out.now.items ++ bs)
    (records_flat (copies_freed c.args.lanes.now c.args.at.now.device c.args.at.now.vifs) c.in-Call.released.now))
