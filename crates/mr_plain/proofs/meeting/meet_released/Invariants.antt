use Rattle.std.proofs.Common.{◌≡◌, ◌+◌, ◌++◌, ◌≤◌, map, drop, length, vec_len, vec_capacity}
use Rattle.mr_plain_lists.specs.Knowing.{waiter, met_of}
use Rattle.mr_plain.specs.Meets.{released_mets}
use Rattle.mr_plain.proofs.meeting.meet_released.Given as goal

abbrev pub invariant-loop-x : goal.invariant-loop-x
invariant-loop-x l = record {
  room : vec_len l.mets + length (drop l.x-index l.released) ≤ vec_capacity l.mets;
  met : map met_of l.mets.items ++ released_mets l.place (drop l.x-index l.released) (map waiter l.waiting)
      ≡ map met_of l.initial.mets.items ++ released_mets l.place l.released (map waiter l.packets);
}
