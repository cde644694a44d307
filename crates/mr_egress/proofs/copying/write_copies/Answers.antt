use Rattle.std.proofs.Common.{◌∙◌, ◌++◌, ap, arith}
use Rattle.mr_egress.proofs.CopiesWritten.{absent, copies_are, loaded_in, none_written, not_loaded, not_out}
use Rattle.mr_egress.proofs.copying.write_copies.Goals as goal

pub returns-then-both-eq0 : goal.returns-then-both-eq0
returns-then-both-eq0 c =
    none_written _ _ (not_out c.args.lanes.now c.args.at.now.device c.args.at.now.vifs c.args.lane c.args.index c.args.outs
    c.ways-ways.result c.if-both-eq0.true c.ways-ways.ensures)

pub returns-then-stands-lanes : goal.returns-then-stands-lanes
returns-then-stands-lanes c =
    none_written _ _ (absent c.args.lanes.now c.args.at.now.device c.args.at.now.vifs c.args.lane c.args.index c.args.outs
    (not_loaded c.args.lanes.now c.args.lane c.args.index (omega (arith, c.lane_place-stands.ensures, c.if-stands-lanes.true))))

pub returns : goal.returns
returns c =
    c.in_ok-write_found.ensures ∙ ap (λ bs. c.args.out.now.items ++ bs)
    (copies_are c.args.lanes.now c.args.at.now.device c.args.at.now.vifs c.args.lane c.args.index c.args.outs
    c.ways-ways.result _
    (loaded_in c.args.lanes.now c.args.lane c.args.index _ c.lane_place-stands.result c.lane_place-stands.ensures
    c.if-stands-lanes.false c.index-lanes-stands.is) c.ways-ways.ensures)
