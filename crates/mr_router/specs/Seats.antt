-- What lanes, daemons and the router keep of their seats at the book.
use Rattle.std.specs.Prelude.{◌≡◌, ℕ, ◌+◌, ◌≤◌, Some, List, [], ◌∷◌, ◌++◌, length, All, Contains}
use mathlib.Core.List.{IsPrefix}
use Rattle.mr_base.specs.declared.numbers.DaemonNo.{DaemonNo}
use Rattle.mr_base.specs.declared.numbers.LaneNo.{LaneNo}
use Rattle.mr_book.specs.declared.view.Known.{Known}
use Rattle.mr_model.specs.declared.entry.Entry.{Entry}
use Rattle.mr_model.specs.declared.entry.Entry.TheVariants.{EndPhase}
use Rattle.mr_model.specs.declared.limits.Limits.{Limits}
use Rattle.mr_model.specs.Legal.{IsDaemon, IsLane, IsLegal, packets_given}
use Rattle.mr_model.specs.Past.{controls, packets, last_look}
use Rattle.mr_authors.specs.Authors.{own, daemon_author}
use Rattle.mr_router.specs.Callers.{LaneValue, DaemonValue}
use Rattle.mr_router.specs.Deeds.{AllHeard}

-- a seat with the number n, which knows just the entries of this number in what it has seen
pub record IsSeatOf (n : ℕ) (k : Known Entry) : Type 0 where
  pub number : k.number ≡ Some n
  pub owns : k.owns ≡ (n, own n k.seen) ∷ []

pub record HoldsLane (limits : Limits) (lane : LaneNo) (left : ℕ) (k : Known Entry) : Type 0 where
  pub is_lane : IsLane limits lane
  pub seat : IsSeatOf lane.0 k
  pub counted : packets lane k.seen + left ≡ packets_given limits lane
  -- no look of its is later than what it has seen
  pub looks : last_look lane k.seen ≤ length k.seen

pub record HoldsDaemon (limits : Limits) (d : DaemonNo) (left : ℕ) (k : Known Entry) : Type 0 where
  pub is_daemon : IsDaemon limits d
  pub seat : IsSeatOf (daemon_author d.0) k
  pub counted : controls k.seen + left ≡ limits.controls
  pub heard : AllHeard k.seen (own (daemon_author d.0) k.seen)

-- The router's seat has the number 0, under which it made these entries, and answers for the numbers
-- of callers that there are not.
pub record IsRouterSeat (mine : List Entry) (k : Known Entry) : Type 0 where
  pub number : k.number ≡ Some 0
  pub spares : List (ℕ × List Entry)
  pub owns : k.owns ≡ (0, mine) ∷ spares

abbrev pub HoldsRouter : Known Entry → Type 0
HoldsRouter k = IsRouterSeat (own 0 k.seen) k

-- what was made under the first number that a seat answers for
abbrev pub first_own : List (ℕ × List Entry) → List Entry
first_own [] = []
first_own (x ∷ xs) = x.1

-- the router's seat adds the end of a phase to a history that begins with what it had seen
pub record AddsEnd (limits : Limits) (old new : Known Entry) : Type 0 where
  pub before : List Entry
  pub begins : IsPrefix old.seen before
  pub own_before : own 0 before ≡ first_own old.owns
  pub legal_before : IsLegal limits before
  pub seen : new.seen ≡ before ++ EndPhase ∷ []
  pub own_after : own 0 new.seen ≡ first_own old.owns ++ EndPhase ∷ []
  pub legal : IsLegal limits new.seen

-- the seat `into` knows all that the seat `from` knew
pub record KnowsAll (into from : Known Entry) : Type 0 where
  pub begins : IsPrefix from.seen into.seen
  pub owns : All (Contains into.owns) from.owns

-- the seat knows what the caller n, who had seen a history, had seen and made
pub record KnowsCaller (into : Known Entry) (n : ℕ) (seen : List Entry) : Type 0 where
  pub begins : IsPrefix seen into.seen
  pub own : Contains into.owns (n, own n seen)

abbrev pub KnowsLane : Known Entry → LaneValue → Type 0
KnowsLane into l = KnowsCaller into l.lane.0 l.seen

abbrev pub KnowsDaemon : Known Entry → DaemonValue → Type 0
KnowsDaemon into d = KnowsCaller into (daemon_author d.daemon.0) d.seen
