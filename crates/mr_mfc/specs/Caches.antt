-- What contracts see of a cache.
use Rattle.std.specs.Prelude.{◌≡◌, ℕ, ◌≤◌, Bool, true, nat_lt, List, [], ◌∷◌, length}
use Rattle.std.specs.List.{list_all}
use Rattle.mr_base.specs.declared.route.Route.{Route}
use Rattle.mr_mfc.specs.declared.cache.TheConstants.{MOST_SLOTS}

-- the entries, newest first, and how many there can be
pub record CacheValue : Type 0 where
  pub routes : List Route
  pub slots : ℕ

-- whether a number is above those of all entries
abbrev pub is_above : ℕ → List Route → Bool
is_above n routes = list_all (λ r. nat_lt r.number n) routes

-- the numbers fall from the front, so no two entries have one
abbrev pub IsFalling : List Route → Type 0
IsFalling [] = Unit {0}
IsFalling (r ∷ rs) = (is_above r.number rs ≡ true) × IsFalling rs

-- what is true of every cache
pub record IsSound (c : CacheValue) : Type 0 where
  pub some : 1 ≤ c.slots
  pub most : c.slots ≤ MOST_SLOTS
  pub within : length c.routes ≤ c.slots
  pub falling : IsFalling c.routes
