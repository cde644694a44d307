use Rattle.std.proofs.Common.{◌≡◌, ◌+◌, ◌≤◌, fold, drop, length, vec_len, vec_capacity}
use Rattle.mr_model.specs.State.{after_released}
use Rattle.mr_plain_lists.specs.Knowing.{state_of}
use Rattle.mr_plain.proofs.taking.report_all.Given as goal

abbrev pub invariant-loop-x : goal.invariant-loop-x
invariant-loop-x l = record {
  moment : l.known.moment ≡ l.initial.known.moment;
  waiting : l.known.waiting ≡ l.initial.known.waiting;
  unread : vec_len l.known.unread + length (drop l.x-index l.released) ≤ vec_capacity l.known.unread;
  attempts : vec_len l.known.attempts + length (drop l.x-index l.released) ≤ vec_capacity l.known.attempts;
  state : fold after_released (state_of l.known) (drop l.x-index l.released) ≡ fold after_released (state_of l.initial.known) l.released;
}
