-- How the history goes on between two calls of a caller, and by its own entry.
use Rattle.std.specs.Prelude.{◌≡◌, ℕ, List, [], ◌∷◌, ◌++◌, All}
use mathlib.Core.List.{IsPrefix}
use Rattle.mr_model.specs.declared.entry.Entry.{Entry}
use Rattle.mr_model.specs.declared.entry.Entry.TheVariants.{EndPhase}
use Rattle.mr_model.specs.declared.limits.Limits.{Limits}
use Rattle.mr_model.specs.Legal.{IsLegal}
use Rattle.mr_authors.specs.Authors.{own}
use Rattle.mr_router.specs.Callers.{LaneValue, DaemonValue}

-- The caller n had seen one history, and sees a later one, to which it has added nothing.
pub record GoesOn (limits : Limits) (n : ℕ) (old new : List Entry) : Type 0 where
  pub begins : IsPrefix old new
  pub own : own n new ≡ own n old
  pub legal : IsLegal limits new

-- The caller n makes an entry behind a history that goes on from what it had seen, and has then seen
-- both.
pub record Makes (limits : Limits) (n : ℕ) (old new : List Entry) (e : Entry) : Type 0 where
  pub before : List Entry
  pub later : GoesOn limits n old before
  pub seen : new ≡ before ++ e ∷ []
  pub own : own n new ≡ own n old ++ e ∷ []
  pub legal : IsLegal limits new

-- The router ends a phase. Before the end stands a history that begins with what it, the lanes and the
-- daemons had seen.
pub record Ends (limits : Limits) (old new : List Entry) (lanes : List LaneValue) (daemons : List DaemonValue) : Type 0 where
  pub before : List Entry
  pub later : GoesOn limits 0 old before
  pub of_lanes : All (λ l. IsPrefix l.seen before) lanes
  pub of_daemons : All (λ d. IsPrefix d.seen before) daemons
  pub seen : new ≡ before ++ EndPhase ∷ []
  pub own : own 0 new ≡ own 0 old ++ EndPhase ∷ []
  pub legal : IsLegal limits new

-- It is the same daemon, and what it had seen begins what it has seen now.
pub record WentOn (old new : DaemonValue) : Type 0 where
  pub daemon : new.daemon ≡ old.daemon
  pub begins : IsPrefix old.seen new.seen
