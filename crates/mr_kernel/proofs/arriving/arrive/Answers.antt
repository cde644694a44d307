use Rattle.std.proofs.Common.{sym, subst}
use Rattle.mr_model.specs.State.{State, arrived, reported}
use Rattle.mr_kernel.specs.Flows.{flow_of}
use Rattle.mr_kernel.specs.Standing.{StandsFor}
use Rattle.mr_kernel.proofs.Judging.{outcome_room, arrived_reports, some_back}
use Rattle.mr_kernel.proofs.arriving.arrive.Goals as goal

pub returns-clause-stands : goal.returns-clause-stands
returns-clause-stands c limits s st is =
    let flow = flow_of c.args.packet in
    subst (λ (t : State). StandsFor limits t c.report.new.live)
    (sym (arrived_reports s c.args.packet.lane c.args.packet.index flow c.args.outcome.now
    c.in_default.not-Parked))
    (c.report.ensures.stands limits s st (outcome_room limits s flow c.args.outcome.now is))

pub returns-clause-back : goal.returns-clause-back
returns-clause-back c = some_back c.args.outcome.now c.args.packet c.in_default.not-Parked
