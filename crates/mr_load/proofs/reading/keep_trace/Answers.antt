use Rattle.std.proofs.Common.{◌∙◌}
use Rattle.mr_load.proofs.ReadOn.{trace_put}
use Rattle.mr_load.proofs.reading.keep_trace.Goals as goal

pub returns-in-Ok-insert-clause-kept : goal.returns-in-Ok-insert-clause-kept
returns-in-Ok-insert-clause-kept c =
    rw c.new-2.ensures at c.in-Ok-insert.ensures.entries ∙ trace_put c.args.lines c.args.traces.now.entries c.args.name.now c.args.bytes.items c.in-Ok.trace c.requires.named c.in-Ok.ensures.trace
