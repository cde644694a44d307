use Rattle.std.proofs.Common.{◌+◌, get_or, subst}
use denote.Exit.{no}
use denote.Param.{param}
use denote.Param.Send.{arg_sync, param_sync}
use Rattle.mr_replay.proofs.Crossing.{sending_sync}
use Rattle.mr_replay.specs.Lanes.{HadTurn, lane_at}
use Rattle.mr_replay.proofs.Turning.{turn_at}
use Rattle.mr_router.specs.Callers as router
use Rattle.mr_replay.proofs.running.send_lanes.Goals as goal

pub for_each_mut-requires-sync-F : goal.for_each_mut-requires-sync-F
for_each_mut-requires-sync-F g c = λ lives within.
    param_sync 2 _ (arg_sync _ no _ (sending_sync _ _ _ _ _ _ _ _ _ _ _ (param 0 g.row.B) (param 1 g.row.C) (param 2 g.row.R) (param 3 g.row.G) g.B.BookName g.C.RunName c.type_bounds.sync-R c.type_bounds.sync-G))

pub for_each_mut-requires-clause-accepts : goal.for_each_mut-requires-clause-accepts
for_each_mut-requires-clause-accepts g c = λ lives within i p less at.
    turn_at g.C.RunName.limits c.args.phase i c.args.packets.now c.args.router.now c.args.lanes.now p.now c.requires.fit c.requires.lanes c.requires.ready less at

pub returns : goal.returns
returns g c = record {
  many = c.for_each_mut.auto.s;
  each = λ i l less.
      let at = (c.for_each_mut.ensures i l less).1 in
      subst (λ (y : router.LaneValue). HadTurn c.args.phase (lane_at c.args.packets.now (i + 1)) (get_or c.args.lanes.now i l) y) at.left
      (subst (λ (x : router.LaneValue). HadTurn c.args.phase (lane_at c.args.packets.now (i + 1)) x at.after_call.now) at.argument_is at.call);
}
