-- What the live parts of the machine stand for: a state of the machine's definitions.
use Rattle.std.specs.Prelude.{◌≡◌, ℕ, Bool, true, false, Option, List, map, ◌++◌}
use Rattle.mr_base.specs.declared.numbers.LaneNo.{LaneNo}
use Rattle.mr_base.specs.declared.route.Route.{Route}
use Rattle.mr_model.specs.declared.limits.Limits.{Limits}
use Rattle.mr_model.specs.declared.outcome.Outcome.{Outcome}
use Rattle.mr_model.specs.declared.outcome.Outcome.TheVariants.{Register, Wrong}
use Rattle.mr_model.specs.declared.outcome.Report.TheVariants.{Told}
use Rattle.mr_model.specs.Messages.{Attempt, last_attempt, attempts_by, told_by}
use Rattle.mr_model.specs.State.{State}
use Rattle.mr_unres.specs.Entries.{awaiting}
use Rattle.mr_kernel.specs.declared.live.Live.{Live}

-- for each (S,G) entry by its number the moment of the last attempt to report a wrong interface
abbrev pub moments : List Attempt → List Route → List (ℕ × Option ℕ)
moments attempts routes = map (λ r. (r.number, last_attempt attempts r.number)) routes

pub record StandsFor (limits : Limits) (s : State) (l : Live) : Type 0 where
  pub owner : l.owner ≡ s.owner
  pub tables : l.tables.tables ≡ s.tables
  pub slots : l.tables.slots ≡ limits.entries
  pub devices : l.tables.devices ≡ limits.devices
  pub moment : l.moment ≡ s.now
  pub waiting : awaiting l.waiting.entries ≡ s.waiting
  pub limit : l.waiting.limit ≡ limits.unresolved
  pub unread : map (λ u. u.id) l.unread ≡ s.unread
  pub attempts : l.attempts.items ≡ moments s.attempts s.tables.routes
  pub room : l.attempts.room ≡ limits.entries

-- whether a decided packet pushes a report
abbrev pub tells : Outcome → Bool
tells (Register entry input outs true) = true
tells (Wrong entry vif Told) = true
tells _ = false

abbrev pub attempt_at : ℕ → ℕ → Attempt
attempt_at moment entry = record { entry = entry; moment = moment }

-- a state with what a decided packet attempts
abbrev pub attempted : State → Outcome → State
attempted s o = record s { attempts = attempts_by s.now o ++ s.attempts }

-- a state with what a decided packet tells
abbrev pub told : State → LaneNo → ℕ → Outcome → State
told s lane index o = record s { unread = s.unread ++ told_by s.tables.vifs lane index o }
