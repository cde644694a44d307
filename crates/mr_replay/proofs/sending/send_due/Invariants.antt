use Rattle.std.proofs.Common.{◌≡◌}
use Rattle.mr_replay.specs.Lanes.{own_of}
use Rattle.mr_replay.proofs.OneLane.{Sending}
use Rattle.mr_replay.proofs.sending.send_due.Given as goal

abbrev pub invariant-loop-place : goal.invariant-loop-place
invariant-loop-place g l = record {
  lane : l.lane.lane ≡ l.packets.lane;
  sending : Sending l.phase l.packets l.place (own_of l.initial.lane) (own_of l.lane);
}
