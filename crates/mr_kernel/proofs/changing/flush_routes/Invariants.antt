use Rattle.std.proofs.Common.{◌≡◌, List}
use Rattle.mr_model.specs.Messages.{Attempt}
use Rattle.mr_history.specs.Numbers.{numbers_of}
use Rattle.mr_kernel.specs.Holding.{numbers}
use Rattle.mr_kernel.specs.Standing.{moments}
use Rattle.mr_kernel.proofs.Walks.{kept_from}
use Rattle.mr_kernel.proofs.changing.flush_routes.Given as goal

abbrev pub invariant-loop-below : goal.invariant-loop-below
invariant-loop-below l = record {
  journal : l.journal
      ≡ record l.fn.journal {
        routes =
            numbers (kept_from l.loose l.fixed l.below l.cache.routes);
      };
  attempts : numbers_of l.attempts.items
      ≡ numbers (kept_from l.loose l.fixed l.below l.cache.routes);
  moments : (made : List Attempt) → l.fn.attempts.items ≡ moments made l.cache.routes
      → l.attempts.items ≡ moments made (kept_from l.loose l.fixed l.below l.cache.routes);
  room : l.attempts.room ≡ l.fn.attempts.room;
}

abbrev pub decreases-loop-below : goal.decreases-loop-below
decreases-loop-below l = l.below
