-- Whether an entry is found.
use Rattle.std.proofs.Common.{◌≡◌, refl, Some, None, Bool, true, false, ◌&&◌, ◌||◌, if◌then◌else◌, List, [], ◌∷◌, find, is_some}
use Rattle.std.specs.List.{list_any}
use Rattle.mr_base.specs.declared.numbers.Addr.{Addr}
use Rattle.mr_base.specs.declared.route.Route.{Route}
use Rattle.mr_model.specs.RouteList.{is_entry, is_named}

pub any_found : (p : Route → Bool) (rs : List Route) → is_some (find p rs) ≡ list_any p rs
any_found p [] = refl
any_found p (r ∷ rs) = by (p r) (any_found p rs)
  where
    by : (b : Bool) → is_some (find p rs) ≡ list_any p rs → is_some (if b then Some r else find p rs) ≡ (b || list_any p rs)
    by true more = refl
    by false more = more

-- without a parent, source and group name an entry
pub plain_name : (src dst : Addr) (rs : List Route) → find (is_named src dst None) rs ≡ find (is_entry src dst) rs
plain_name src dst [] = refl
plain_name src dst (r ∷ rs) = by (is_entry src dst r) (plain_name src dst rs)
  where
    by : (b : Bool) → find (is_named src dst None) rs ≡ find (is_entry src dst) rs
        → (if b && true then Some r else find (is_named src dst None) rs) ≡ (if b then Some r else find (is_entry src dst) rs)
    by true more = refl
    by false more = more
