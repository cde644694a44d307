-- Entries that are changed, found and deleted by origin and group, or by the parent too; with room for two of them.
use Rattle.std.specs.Prelude.{true, List, [], ◌∷◌, ◌++◌}
use Rattle.mr_base.specs.declared.errno.Errno.TheVariants.{Invalid, NoBuffers, NoEntry, TooManyVifs}
use Rattle.mr_base.specs.declared.route.Route.{Route}
use Rattle.mr_model.specs.declared.ending.Ending.{Ending}
use Rattle.mr_model.specs.declared.entry.Entry.{Entry}
use Rattle.mr_model.specs.declared.entry.Entry.TheVariants.{EndPhase}
use Rattle.mr_model.specs.declared.limits.Limits.{Limits}
use Rattle.mr_model.specs.declared.reply.Reply.TheVariants.{Sg}
use Rattle.mr_model.specs.declared.request.Request.TheVariants.{DelMfc, DelProxy, SgCount}
use Rattle.mr_rows.specs.Samples.{addr, any, source, group, devices_at, limits_of, add_mfc, add_proxy, key, call, good, refused, opening, route, vif, route_totals, vif_totals, fixed_route}

abbrev pub limits : Limits
limits = record (limits_of 1 (0 ∷ []) (true ∷ true ∷ []) (devices_at (0 ∷ 1 ∷ []))) { entries = 2 }

-- One entry, changed by another admin, by its owner, and by its parent's name; and a second one, which is the newer.
abbrev pub changed : List Entry
changed =
    opening (0 ∷ 1 ∷ [])
    ++ good 1 (add_mfc source group 0 ((1, 4) ∷ []))
    ∷ good 2 (add_mfc source group 1 ((0, 7) ∷ []))
    ∷ good 1 (add_mfc source group 1 ((0, 8) ∷ []))
    ∷ good 1 (add_proxy source group 0 ((1, 2) ∷ []))
    ∷ refused 1 (add_mfc any any 0 []) NoBuffers
    ∷ refused 1 (add_mfc any (addr 10 0 0 8) 0 []) Invalid
    ∷ refused 1 (add_mfc source group 32 []) TooManyVifs
    ∷ good 1 (add_proxy source group 1 ((0, 9) ∷ []))
    ∷ good 1 (add_mfc source group 0 ((1, 3) ∷ [])) ∷ []

abbrev pub history : List Entry
history =
    changed
    ++ call 1 (SgCount source group) (Sg (route_totals 0 0 0))
    ∷ good 1 (DelProxy (key source group 1))
    ∷ refused 1 (DelProxy (key source group 1)) NoEntry
    ∷ good 1 (add_mfc any any 0 ((0, 1) ∷ []))
    ∷ good 1 (DelMfc (key source group 9))
    ∷ EndPhase ∷ []

-- the two entries, newest first
abbrev pub both : List Route
both = route 7 source group 0 ((1, 3) ∷ []) ∷ fixed_route 4 source group 1 ((0, 9) ∷ []) ∷ []

abbrev pub tail : Ending
tail = record {
  routes = (route 16 any any 0 ((0, 1) ∷ []), route_totals 0 0 0) ∷ [];
  vifs = (vif 0 1 2, vif_totals 0 0 0 0) ∷ (vif 1 2 3, vif_totals 0 0 0 0) ∷ [];
  fates = [];
}
