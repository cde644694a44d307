-- What contracts see of a publisher, and of a looker.
use Rattle.std.specs.Prelude.{ℕ, ◌+◌, ◌-◌, ◌^◌, min, List, []}
use Rattle.logbook.specs.Pages.{Book}
use Rattle.mr_model.specs.declared.change.Change.{Change}

-- the changes that lookers can see, and those that wait to be published, each in order
pub record Published : Type 0 where
  pub published : List Change
  pub staged : List Change

pub record Sight : Type 0 where
  -- the published changes up to the last look
  pub seen : List Change
  -- those that the looker was told of: each look behind it sees them
  pub learnt : List Change
  -- how often it could not look, as far as a u64 counts
  pub refusals : ℕ

-- that of a looker which has not looked yet
abbrev pub first_sight : Sight
first_sight = record { seen = []; learnt = []; refusals = 0 }

-- a beginning of a list of published changes, and which list it is
pub record Marked : Type 0 where
  pub list : Book
  pub changes : List Change

abbrev pub marked : Book → List Change → Marked
marked list changes = record { list = list; changes = changes }

-- one more, as far as a u64 counts
abbrev pub one_more : ℕ → ℕ
one_more n = min (n + 1) (2 ^ 64 - 1)

-- where a look is refused, that alone is counted
abbrev pub refused : Sight → Sight
refused s = record s { refusals = one_more s.refusals }
