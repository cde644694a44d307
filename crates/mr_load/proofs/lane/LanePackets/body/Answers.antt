use Rattle.std.proofs.Common.{◌≡◌}
use Rattle.mr_ip.specs.Bodies.{body_of}
use Rattle.mr_load.proofs.HeldDues.{accepted_at, at_due}
use Rattle.mr_load.proofs.lane.LanePackets.body.Goals as goal

pub accepted_body-requires : goal.accepted_body-requires
accepted_body-requires c =
    rw (c.bytes_of.ensures, c.as_slice.ensures.value)
    (accepted_at c.self.inside.bytes.items c.self.inside.held.items c.args.place c.index-held.result.now (rw (← c.self.view_is) at c.requires) c.index-held.ensures c.self.invariant.due.accepted)

pub returns : goal.returns
returns c =
    rw (← c.self.view_is)
    (at_due (λ d. c.accepted_body.result.now ≡ body_of d.bytes) c.self.inside.bytes.items c.self.inside.held.items c.args.place c.index-held.result.now
    (rw (← c.self.view_is) at c.requires) c.index-held.ensures (rw (c.bytes_of.ensures, c.as_slice.ensures.value) at c.accepted_body.ensures))
