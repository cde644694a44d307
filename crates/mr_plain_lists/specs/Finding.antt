-- What contracts see of the entries.
use Rattle.std.specs.Prelude.{◌≡◌, ℕ, ◌≤◌, Bool, List}
use Rattle.std.specs.Fn.{Shared, FnReturnsAt}
use denote.Ref.{Bor}
use Rattle.mr_base.specs.declared.route.Route.{Route}

-- the entries, newest first, and for how many more there is room, in places and in keys
pub record RoutesValue : Type 0 where
  pub items : List Route
  pub places : ℕ
  pub keys : ℕ

-- there is room for one more entry
pub record HasPlace (routes : RoutesValue) : Type 0 where
  pub places : 1 ≤ routes.places
  pub keys : 1 ≤ routes.keys

-- a closure answers as a test does
abbrev pub Answers : {F : Type 0} → Shared F (Bor Route × Unit {0}) Bool → F → (Route → Bool) → Type 0
Answers g f test = (r : Route) (b : Bool) → FnReturnsAt g f r b → b ≡ test r
