use Rattle.std.proofs.Common.{◌≡◌, map, drop}
use Rattle.mr_model.specs.Messages.{last_attempt}
use Rattle.mr_plain_lists.specs.Knowing.{attempt}
use Rattle.mr_plain_lists.proofs.outcomes.last_attempt.Given as goal

abbrev pub invariant-loop-t : goal.invariant-loop-t
invariant-loop-t l = last_attempt (map attempt (drop l.t-index l.attempts)) l.entry ≡ last_attempt (map attempt l.attempts) l.entry
