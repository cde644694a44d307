-- What callers put behind a history.
use Rattle.std.specs.Prelude.{◌≡◌, ℕ, List, ◌++◌, flat_map}
use Rattle.std.specs.List.{AllByRecursion}
use Rattle.mr_authors.specs.Authors.{author, daemon_author}
use Rattle.mr_load.specs.Made.{Sent, sent_in, asked_in}
use Rattle.mr_model.specs.declared.entry.Entry.{Entry}
use Rattle.mr_scenario.specs.declared.scenario.Script.{Script}

-- Behind the old history stand entries of one caller alone, and what they have by `f` is this.
pub record Does {A : Type 0} (n : ℕ) (f : Entry → List A) (what : List A) (old new : List Entry) : Type 0 where
  pub part : List Entry
  pub behind : new ≡ old ++ part
  pub its : AllByRecursion (λ e. author e ≡ n) part
  pub does : flat_map f part ≡ what

-- a daemon asks this
abbrev pub Asks : ℕ → List Script → List Entry → List Entry → Type 0
Asks d what old new = Does (daemon_author d) (asked_in d) what old new

-- a lane sends these packets
abbrev pub Sends : ℕ → List Sent → List Entry → List Entry → Type 0
Sends lane what old new = Does lane (sent_in lane) what old new
