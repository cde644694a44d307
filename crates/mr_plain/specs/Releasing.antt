-- The state in which a packet is judged that a new entry releases.
use Rattle.std.specs.Prelude.{◌≡◌, ℕ, ◌∷◌, length, map, min}
use Rattle.mr_base.specs.declared.route.Route.{Route}
use Rattle.mr_model.specs.Messages.{Attempt, last_attempt}
use Rattle.mr_model.specs.State.{State}
use Rattle.mr_plain_lists.specs.declared.known.Known.{Known}
use Rattle.mr_plain_lists.specs.Knowing.{attempt}
use Rattle.mr_plain_lists.specs.declared.outcomes.Reports.{Reports}

-- What reports know of a state, as far as one entry is concerned: 64 stands for 64 unread reports
-- or more.
pub record Reporting (reports : Reports) (route : Route) (s : State) : Type 0 where
  pub unread : reports.unread ≡ min (length s.unread) 64
  pub last : reports.last ≡ last_attempt s.attempts route.number

-- The state is that of the lists but for a new entry in front, and reports.
pub record Releases (known : Known) (route : Route) (s : State) : Type 0 where
  pub vifs : known.vifs.items ≡ s.tables.vifs
  pub routes : route ∷ known.routes.items ≡ s.tables.routes
  pub owner : known.owner ≡ s.owner
  pub pim : known.pim ≡ s.tables.pim
  pub asserts : known.asserts ≡ s.tables.asserts
  pub moment : known.moment ≡ s.now

-- the same, where the reports are those of the lists
pub record IsGranted (known : Known) (route : Route) (s : State) : Type 0 where
  pub releases : Releases known route s
  pub unread : known.unread.items ≡ s.unread
  pub attempts : map attempt known.attempts.items ≡ s.attempts

-- an attempt for an entry at a moment
abbrev pub attempt_at : ℕ → ℕ → Attempt
attempt_at moment entry = record { entry = entry; moment = moment }
