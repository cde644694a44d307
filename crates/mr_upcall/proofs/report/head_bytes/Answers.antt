use Rattle.std.proofs.Common.{ap, ◌∙◌}
use Rattle.mr_upcall.proofs.AcceptedHeads.{head-longer}
use Rattle.mr_upcall.proofs.report.head_bytes.Goals as goal

pub returns-clause-shortest : goal.returns-clause-shortest
returns-clause-shortest c =
    let head = c.args.head.now in
    rw (c.as_slice.ensures.value ∙ ap (λ h. h.bytes) c.head.view_is)
    (head-longer head.bytes head.length head.ttl head.src.0 head.dst.0 head.accepted)
