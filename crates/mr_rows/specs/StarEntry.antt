-- An entry for any origin, with a packet that comes in on a vif which the parent's proxy entry reaches.
use Rattle.std.specs.Prelude.{List, [], ◌∷◌, ◌++◌}
use Rattle.mr_base.specs.declared.route.Route.{Route}
use Rattle.mr_model.specs.declared.ending.Ending.{Ending}
use Rattle.mr_model.specs.declared.entry.Entry.{Entry}
use Rattle.mr_model.specs.declared.entry.Entry.TheVariants.{EndPhase}
use Rattle.mr_model.specs.declared.limits.Limits.{Limits}
use Rattle.mr_rows.specs.Samples.{addr, any, group, usual, add_mfc, add_proxy, good, opening, packet, slow, forward, route, vif, route_totals, vif_totals, fast, settle}

abbrev pub limits : Limits
limits = usual 2 1 (0 ∷ 1 ∷ 2 ∷ [])

-- a proxy entry with number 5, and one for any origin of the group with number 6
abbrev pub start : List Entry
start =
    opening (0 ∷ 1 ∷ 2 ∷ [])
    ++ good 1 (add_proxy any any 0 ((0, 1) ∷ (1, 1) ∷ (2, 1) ∷ []))
    ∷ good 1 (add_mfc any group 0 ((0, 1) ∷ (1, 1) ∷ (2, 1) ∷ []))
    ∷ EndPhase ∷ []

-- it goes out on the two other vifs
abbrev pub history : List Entry
history = start ++ slow 1 7 (packet 2 (addr 10 0 1 9) group 9) (forward 6 0 (0 ∷ 2 ∷ [])) ∷ EndPhase ∷ []

abbrev pub proxy_route : Route
proxy_route = route 5 any any 0 ((0, 1) ∷ (1, 1) ∷ (2, 1) ∷ [])

abbrev pub star_route : Route
star_route = route 6 any group 0 ((0, 1) ∷ (1, 1) ∷ (2, 1) ∷ [])

-- the same with plainly forwarded packets that were decided without the lock
abbrev pub fast_history : List Entry
fast_history = start ++ settle (fast 1 7 (packet 2 (addr 10 0 1 9) group 9) 6 0 (0 ∷ 2 ∷ []) ∷ []) ∷ EndPhase ∷ []

abbrev pub tail : Ending
tail = record {
  routes = (proxy_route, route_totals 0 0 0) ∷ (star_route, route_totals 1 28 0) ∷ [];
  vifs = (vif 0 1 2, vif_totals 1 1 28 28) ∷ (vif 1 2 3, vif_totals 0 0 0 0) ∷ (vif 2 3 4, vif_totals 0 1 0 28) ∷ [];
  fates = [];
}
